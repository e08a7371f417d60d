use Rattle.std.proofs.Common.{inr, refl, sym, ap, ◌∙◌, subst, subst₂}
use Rattle.sm_machine.specs.Commits.{own_commits, is_given_up, gives_up}
use Rattle.sm_machine.specs.Steps.{disks_next, shape_after, reply_to, accepted, Outcome}
use Rattle.sm_machine.specs.declared.commands.Command.TheVariants.{Flush}
use Rattle.sm_machine.specs.declared.replies.Reply.TheVariants.{Done}
use Rattle.sm_ready.specs.Known.{known, shape_in}
use Rattle.sm_ready.specs.Orderly.{IsOrderly}
use Rattle.sm_ready.specs.Ready.{IsTidy}
use Rattle.sm_ready.specs.Sessions.{store_state}
use Rattle.vg_volumes.proofs.StoredLaws.{stays_from}
use Rattle.sm_ready.proofs.FrameLaws.{true_stays}
use Rattle.sm_ready.proofs.RoomLaws.{rows_stays}
use Rattle.sm_ready.proofs.TakenLaws.{step_accepted}
use Rattle.cmd_guest.specs.Taken.{answered}
use Rattle.cmd_guest.proofs.TakenLaws.{few_numbers, answered_all, answered_if, taken_keeps, whole_still}
use Rattle.cmd_guest.proofs.flushing.flush.Goals as goal

pub returns-clause-session_still : goal.returns-clause-session_still
returns-clause-session_still g c = λ m i.
    let sync = c.sync.ensures in
    let stays = stays_from {g = g.S.Store} sync.site sync.table sync.no_less sync.counts sync.beside in
    record {
      usable = stays.failed ∙ i.usable;
      orderly = subst₂ (λ s t. IsOrderly s t (known m)) (sym stays.site) (sym stays.table) i.orderly;
      tidy = subst (λ t. IsTidy t (known m)) (sym stays.table) i.tidy;
      true_images = true_stays g.S.Store m m sync.site sync.table.0 refl sync.keeps i.true_images;
      rows = rows_stays stays i.rows;
      tree_room = i.tree_room;
      attachment_room = i.attachment_room;
    }

pub returns-clause-taken : goal.returns-clause-taken
unfolding disks_next shape_after reply_to accepted own_commits is_given_up gives_up shape_in
returns-clause-taken g c = λ told m disk orderly ready allowed.
    let sync = c.sync.ensures in
    let stays = stays_from {g = g.S.Store} sync.site sync.table sync.no_less sync.counts sync.beside in
    taken_keeps g.S.Store c.args.store.now c.sync.new.self m (Flush disk) orderly c.requires.usable told ready (g.met.S.Store.leaves_now c.args.store.now told c.requires.usable)
    stays (c.sync.ensures.keeps told) (c.sync.ensures.leaves told) (answered Done c.sync.result)
    (answered_all _ Done c.sync.result (inr (ap (λ (o : Outcome). o.reply) (sym (step_accepted (store_state g.S.Store c.args.store.now m) (Flush disk) allowed)))))
    (whole_still (store_state g.S.Store c.args.store.now m) (Flush disk) allowed (few_numbers _ _ _ orderly) refl refl refl refl)
    (answered_if _ Done c.sync.result (λ settled yes settles. settled told) sync.settled)
