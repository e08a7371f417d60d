use Rattle.std.proofs.Common.{refl, sym, ap, ◌∙◌}
use Rattle.vg_meta.specs.Roomy.{RoomyTable, table_alone}
use Rattle.sm_standing.specs.Dropped.{first_useless}
use Rattle.sm_recover.proofs.DropLaws.{all_all_made, next_dropped, next_may, next_shorter, none_dropped, part_all_made, part_failed}
use Rattle.sm_recover.proofs.dropping.drop_logs.Goals as goal

pub loop-name-init : goal.loop-name-init
loop-name-init g c = record { calm = refl; some = none_dropped (λ told t image l. g.met.S.Store.leaves_now c.args.store.now told c.requires.usable t image l) c.requires.usable c.requires.allowed }

pub commit_where-requires-clause-allowed : goal.commit_where-requires-clause-allowed
commit_where-requires-clause-allowed g c =
    next_may c.in-Some.name c.loop-name.invariant.some c.table.ensures.spread (sym (c.in-Some.ensures ∙ ap (λ (k : RoomyTable). first_useless (table_alone k)) c.table.ensures.table))

pub loop-name-smaller : goal.loop-name-smaller
loop-name-smaller g c =
    next_shorter _ _ c.in-Some.name (sym (c.in-Some.ensures ∙ ap (λ (k : RoomyTable). first_useless (table_alone k)) c.table.ensures.table)) c.in_ok-commit_where.ensures.all.table

pub loop-name-preserved : goal.loop-name-preserved
loop-name-preserved g c = record {
  calm = c.in_ok-commit_where.ensures.cause.1 ∙ c.loop-name.invariant.calm;
  some = next_dropped c.in-Some.name c.loop-name.invariant.some c.table.ensures.spread (sym (c.in-Some.ensures ∙ ap (λ (k : RoomyTable). first_useless (table_alone k)) c.table.ensures.table))
      c.commit_where.ensures.part c.in_ok-commit_where.ensures.all;
}

pub returns-in_err-commit_where-clause-part : goal.returns-in_err-commit_where-clause-part
returns-in_err-commit_where-clause-part g c =
    part_failed c.in-Some.name c.loop-name.invariant.some c.table.ensures.spread (sym (c.in-Some.ensures ∙ ap (λ (k : RoomyTable). first_useless (table_alone k)) c.table.ensures.table)) c.commit_where.ensures.part

pub returns-clause-part : goal.returns-clause-part
returns-clause-part g c = part_all_made c.loop-name.invariant.some (sym (c.in_default.ensures ∙ ap (λ (k : RoomyTable). first_useless (table_alone k)) c.table.ensures.table))

pub returns-clause-all : goal.returns-clause-all
returns-clause-all g c = all_all_made c.loop-name.invariant.some (sym (c.in_default.ensures ∙ ap (λ (k : RoomyTable). first_useless (table_alone k)) c.table.ensures.table))
