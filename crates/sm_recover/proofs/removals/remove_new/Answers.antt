use Rattle.std.proofs.Common.{ap, refl, sym, ⊎_elim, ◌∙◌, subst}
use Rattle.sm_disk.proofs.HeldLaws.{Keeps-none, Keeps-then}
use Rattle.vg_meta.specs.Roomy.{table_alone}
use Rattle.vg_meta.specs.declared.changes.Change.TheVariants.{Remove}
use Rattle.vg_volumes.specs.Sites.{Fits, Site}
use Rattle.vg_volumes.specs.Stored.{stored}
use Rattle.sm_recover.specs.Repairs.{IsChecked}
use Rattle.sm_ready.proofs.AgainLaws.{again_none, again_then, again_less, orderly_less, stop_then, stop_now, stop_less}
use Rattle.sm_ready.proofs.CleanLaws.{cleaned_more, cleaned_all, few_same, few_at, few_removals}
use Rattle.sm_ready.proofs.NewVolumeLaws.{may_remove, new_at, none_at, removed_shorter}
use Rattle.sm_ready.proofs.RowRoomLaws.{rows_removed}
use Rattle.sm_recover.proofs.RemovalLaws.{checked_one, checked_more, text_fits}
use Rattle.sm_recover.proofs.removals.remove_new.Goals as goal

pub commit-requires-clause-allowed : goal.commit-requires-clause-allowed
commit-requires-clause-allowed g c = may_remove c.loop-name.invariant.checked.table (new_at c.in-Some.name c.table.ensures.table c.in-Some.ensures.some)

pub commit-requires-clause-fits : goal.commit-requires-clause-fits
commit-requires-clause-fits g c =
    subst (λ (s : Site). Fits s.count (table_alone (g.S.Store.table c.loop-name.store)) (Remove c.in-Some.name)) (sym c.loop-name.invariant.site)
    (text_fits (checked_one c.in-Some.name c.loop-name.invariant.checked (new_at c.in-Some.name c.table.ensures.table c.in-Some.ensures.some)))

pub loop-name-smaller : goal.loop-name-smaller
loop-name-smaller g c = removed_shorter _ _ c.in-Some.name (new_at c.in-Some.name c.table.ensures.table c.in-Some.ensures.some) c.in_ok-commit.ensures.changed.0

pub loop-name-init : goal.loop-name-init
loop-name-init g c = record {
  site = refl;
  calm = refl;
  usable = c.requires.usable;
  checked = c.requires.checked;
  cleaned = refl;
  few = few_same (table_alone (g.S.Store.table c.args.store.now));
  room = λ had. had;
  beside = λ told. Keeps-none _;
  keeps = λ told. Keeps-none _;
  orderly = λ m o. o;
  rest = λ told m. again_none _ m;
}

pub loop-name-preserved : goal.loop-name-preserved
loop-name-preserved g c =
    let i = c.loop-name.invariant in
    let e = c.commit.ensures in
    let n = c.in-Some.name in
    let now = stored g.S.Store c.loop-name.store in
    let next = stored g.S.Store c.commit.new.self in
    let new = new_at c.in-Some.name c.table.ensures.table c.in-Some.ensures.some in
    let table = c.in_ok-commit.ensures.changed.0 in
    let checked = checked_more n i.checked new table in
    let cleaned = cleaned_more (table_alone (g.S.Store.table c.args.store.now)) now.table next.table n i.cleaned new table in
    record {
      site = e.site ∙ i.site;
      calm = c.in_ok-commit.ensures.cause.1 ∙ i.calm;
      usable = c.in_ok-commit.ensures.changed.1;
      checked = checked;
      cleaned = cleaned;
      few = few_removals (table_alone (g.S.Store.table c.args.store.now)) next.table checked.table cleaned;
      room = λ had. rows_removed _ _ n new table c.in_ok-commit.ensures.room_after.spare_rows (i.room had);
      beside = λ told. Keeps-then (i.beside told) (e.beside told);
      keeps = λ told. Keeps-then (i.keeps told) (e.keeps told);
      orderly = λ m o. orderly_less now n new next m e.site table (i.orderly m o);
      rest = λ told m. again_then (i.rest told m) (again_less now n new next m e.site table (e.keeps told) (c.in_ok-commit.ensures.settled told));
    }

pub returns-in_err-commit-clause-crash : goal.returns-in_err-commit-clause-crash
returns-in_err-commit-clause-crash g c = λ m told t image leaves r.
    stop_then c.loop-name.invariant.site (c.loop-name.invariant.rest told m) r
    (stop_less (stored g.S.Store c.loop-name.store) c.in-Some.name (new_at c.in-Some.name c.table.ensures.table c.in-Some.ensures.some) m t image (c.commit.ensures.crash told t image leaves))

pub returns-clause-checked : goal.returns-clause-checked
returns-clause-checked g c =
    let i = c.loop-name.invariant in
    subst (λ z. IsChecked z (table_alone (g.S.Store.table c.loop-name.store))) (sym i.site) i.checked

pub returns-clause-none_new : goal.returns-clause-none_new
returns-clause-none_new g c = none_at (ap table_alone c.table.ensures.table) c.in_default.ensures.none

pub returns-clause-cleaned : goal.returns-clause-cleaned
returns-clause-cleaned g c = cleaned_all _ _ _ c.loop-name.invariant.checked.table (returns-clause-none_new g c) c.loop-name.invariant.cleaned

pub returns-clause-crash : goal.returns-clause-crash
returns-clause-crash g c = λ m told t image leaves r.
    let i = c.loop-name.invariant in
    stop_then i.site (i.rest told m) r (stop_now (stored g.S.Store c.loop-name.store) m t image (g.met.S.Store.leaves_now c.loop-name.store told i.usable t image leaves))

pub returns-in_err-commit-clause-beside : goal.returns-in_err-commit-clause-beside
returns-in_err-commit-clause-beside g c = λ told. Keeps-then (c.loop-name.invariant.beside told) (c.commit.ensures.beside told)

pub returns-in_err-commit-clause-few : goal.returns-in_err-commit-clause-few
returns-in_err-commit-clause-few g c = few_at (table_alone (g.S.Store.table c.args.store.now)) c.in_err-commit.ensures.unchanged.0 c.loop-name.invariant.few

pub returns-in_err-commit-clause-few_left : goal.returns-in_err-commit-clause-few_left
returns-in_err-commit-clause-few_left g c = λ told t image leaves.
    let i = c.loop-name.invariant in
    let first = table_alone (g.S.Store.table c.args.store.now) in
    let now = table_alone (g.S.Store.table c.loop-name.store) in
    let new = new_at c.in-Some.name c.table.ensures.table c.in-Some.ensures.some in
    ⊎_elim
    (λ before. few_at first before.table_is i.few)
    (λ after. few_removals first t (checked_more c.in-Some.name i.checked new after.table_is).table (cleaned_more first now t c.in-Some.name i.cleaned new after.table_is))
    (c.commit.ensures.crash told t image leaves)

pub returns-clause-few_left : goal.returns-clause-few_left
returns-clause-few_left g c = λ told t image leaves.
    few_at (table_alone (g.S.Store.table c.args.store.now)) (g.met.S.Store.leaves_now c.loop-name.store told c.loop-name.invariant.usable t image leaves).table_is c.loop-name.invariant.few

pub returns-in_err-commit-clause-keeps : goal.returns-in_err-commit-clause-keeps
returns-in_err-commit-clause-keeps g c = λ told. Keeps-then (c.loop-name.invariant.keeps told) (c.commit.ensures.keeps told)
