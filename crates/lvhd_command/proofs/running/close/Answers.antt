use Rattle.vg_volumes.specs.Sites.{Site}
use Rattle.sm_ready.specs.Known.{known}
use Rattle.lvhd_command.specs.Sessions.{site_of, table_of}
use Rattle.lvhd_command.proofs.RunLaws.{kept_back_after, one_after, shown_settled}
use Rattle.lvhd_command.proofs.running.close.Goals as goal

pub returns-in-Ok-clause-back : goal.returns-in-Ok-clause-back
returns-in-Ok-clause-back g c = λ told.
    let s = c.args.session in
    let size = g.D.Disk.size s.store.inner.disk in
    let site : Site = site_of s in
    let keeps = rw c.leave-disk.ensures.disk at c.sync.ensures.keeps in
    kept_back_after size site (g.D.Disk.held s.store.inner.disk) _ (keeps told) (c.leave-disk.ensures.stands told)

pub returns-in-Ok-clause-one : goal.returns-in-Ok-clause-one
returns-in-Ok-clause-one g c = λ told whole.
    let s = c.args.session in
    let size = g.D.Disk.size s.store.inner.disk in
    let site : Site = site_of s in
    let keeps = rw c.leave-disk.ensures.disk at c.sync.ensures.keeps in
    one_after size site (g.D.Disk.held s.store.inner.disk) _ (table_of s) (keeps told) (c.leave-disk.ensures.one told whole)

pub returns-in-Ok-clause-shown : goal.returns-in-Ok-clause-shown
returns-in-Ok-clause-shown g c = λ told whole ready settled.
    let s = c.args.session in
    let size = g.D.Disk.size s.store.inner.disk in
    let site : Site = site_of s in
    let keeps = rw c.leave-disk.ensures.disk at c.sync.ensures.keeps in
    shown_settled size site (table_of s) (g.D.Disk.held s.store.inner.disk) _ (known s.memory) s.store.inner.area ((s.between whole).orderly) ready.0 (keeps told) settled
    (returns-in-Ok-clause-back g c told) (returns-in-Ok-clause-one g c told whole)

pub returns-in-Err-clause-back : goal.returns-in-Err-clause-back
returns-in-Err-clause-back g c = λ told.
    let s = c.args.session in
    let size = g.D.Disk.size s.store.inner.disk in
    let site : Site = site_of s in
    let keeps = rw c.leave-disk.ensures.disk at c.sync.ensures.keeps in
    kept_back_after size site (g.D.Disk.held s.store.inner.disk) _ (keeps told) (c.leave-disk.ensures.stands told)

pub returns-in-Err-clause-one : goal.returns-in-Err-clause-one
returns-in-Err-clause-one g c = λ told whole.
    let s = c.args.session in
    let size = g.D.Disk.size s.store.inner.disk in
    let site : Site = site_of s in
    let keeps = rw c.leave-disk.ensures.disk at c.sync.ensures.keeps in
    one_after size site (g.D.Disk.held s.store.inner.disk) _ (table_of s) (keeps told) (c.leave-disk.ensures.one told whole)

pub returns-in-Err-clause-shown : goal.returns-in-Err-clause-shown
returns-in-Err-clause-shown g c = λ told whole ready settled.
    let s = c.args.session in
    let size = g.D.Disk.size s.store.inner.disk in
    let site : Site = site_of s in
    let keeps = rw c.leave-disk.ensures.disk at c.sync.ensures.keeps in
    shown_settled size site (table_of s) (g.D.Disk.held s.store.inner.disk) _ (known s.memory) s.store.inner.area ((s.between whole).orderly) ready.0 (keeps told) settled
    (returns-in-Err-clause-back g c told) (returns-in-Err-clause-one g c told whole)

pub returns-in-Ok-clause-keeps : goal.returns-in-Ok-clause-keeps
returns-in-Ok-clause-keeps g c = λ told. let keeps = rw c.leave-disk.ensures.disk at c.sync.ensures.keeps in keeps told

pub returns-in-Err-clause-keeps : goal.returns-in-Err-clause-keeps
returns-in-Err-clause-keeps g c = λ told. let keeps = rw c.leave-disk.ensures.disk at c.sync.ensures.keeps in keeps told
