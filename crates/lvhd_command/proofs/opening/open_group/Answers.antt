use Rattle.lvhd_command.proofs.opening.open_group.Goals as goal

pub returns-in-Ok-new-clause-size : goal.returns-in-Ok-new-clause-size
returns-in-Ok-new-clause-size g c = rw c.in-Ok-new.ensures.inner c.in-Ok.ensures.size

pub returns-in-Ok-new-clause-calm : goal.returns-in-Ok-new-clause-calm
returns-in-Ok-new-clause-calm g c = rw c.in-Ok-new.ensures.inner c.in-Ok.ensures.calm

pub returns-in-Ok-new-clause-keeps : goal.returns-in-Ok-new-clause-keeps
returns-in-Ok-new-clause-keeps g c = rw c.in-Ok-new.ensures.inner c.in-Ok.ensures.keeps

pub returns-in-Ok-new-clause-area : goal.returns-in-Ok-new-clause-area
returns-in-Ok-new-clause-area g c = rw c.in-Ok-new.ensures.inner c.in-Ok.ensures.area

pub returns-in-Ok-new-clause-settled : goal.returns-in-Ok-new-clause-settled
returns-in-Ok-new-clause-settled g c = rw c.in-Ok-new.ensures.inner c.in-Ok.ensures.settled

pub returns-in-Ok-new-clause-stands : goal.returns-in-Ok-new-clause-stands
returns-in-Ok-new-clause-stands g c = rw c.in-Ok-new.ensures.inner c.in-Ok.ensures.stands

pub returns-in-Err-new-clause-size_back : goal.returns-in-Err-new-clause-size_back
returns-in-Err-new-clause-size_back g c = rw (c.into_disk.ensures.disk, c.in-Err-new.ensures.back) c.in-Ok.ensures.size

pub returns-in-Err-new-clause-keeps_back : goal.returns-in-Err-new-clause-keeps_back
returns-in-Err-new-clause-keeps_back g c = rw (c.into_disk.ensures.disk, c.in-Err-new.ensures.back) c.in-Ok.ensures.keeps

pub returns-in-Err-new-clause-err : goal.returns-in-Err-new-clause-err
returns-in-Err-new-clause-err g c = rw (c.into_disk.ensures.disk, c.in-Err-new.ensures.back) c.in-Ok.ensures.calm
