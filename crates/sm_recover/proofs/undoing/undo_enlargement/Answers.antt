use Rattle.std.proofs.Common.{◌≡◌, List, [], ◌∷◌, ◌++◌, ap, ◌∙◌, subst}
use Rattle.sm_base.specs.declared.names.Name.TheVariants.{Vhd, Inflate}
use Rattle.vg_meta.specs.Roomy.{table_alone}
use Rattle.vg_meta.specs.Tables.{rows}
use Rattle.vg_meta.specs.declared.changes.Change.{Change}
use Rattle.vg_meta.specs.declared.changes.Change.TheVariants.{Cut, Remove}
use Rattle.sm_standing.specs.Entries.{of_row}
use Rattle.sm_standing.specs.Opened.{is_longer, wanted}
use Rattle.sm_recover.specs.Steps.{MakesPart}
use Rattle.sm_recover.proofs.StepLaws.{front_part, then_part}
use Rattle.sm_recover.proofs.undoing.undo_enlargement.Goals as goal

pub returns-in_err-commit_where-clause-part : goal.returns-in_err-commit_where-clause-part
returns-in_err-commit_where-clause-part g c =
    let n = Vhd c.args.image in
    let e = c.args.extents in
    let zs : List Change = Remove (Inflate c.args.image e) ∷ [] in
    let is : c.is_longer-is_long.result ≡ of_row (is_longer e) (rows (table_alone (g.S.Store.table c.args.store.now)) n) =
    c.is_longer-is_long.ensures ∙ ap (λ k. of_row (is_longer e) (rows (table_alone k) n)) c.table.ensures.table in
    subst (λ b. MakesPart g.S.Store (wanted b (Cut n e) ++ zs) c.args.store.now c.commit_where.new.store) is
    (front_part (wanted c.is_longer-is_long.result (Cut n e)) zs c.commit_where.ensures.part)

pub returns-in_err-commit_where-2-clause-part : goal.returns-in_err-commit_where-2-clause-part
returns-in_err-commit_where-2-clause-part g c =
    let n = Vhd c.args.image in
    let e = c.args.extents in
    let zs : List Change = Remove (Inflate c.args.image e) ∷ [] in
    let is : c.is_longer-is_long.result ≡ of_row (is_longer e) (rows (table_alone (g.S.Store.table c.args.store.now)) n) =
    c.is_longer-is_long.ensures ∙ ap (λ k. of_row (is_longer e) (rows (table_alone k) n)) c.table.ensures.table in
    subst (λ b. MakesPart g.S.Store (wanted b (Cut n e) ++ zs) c.args.store.now c.commit_where-2.new.store) is
    (then_part (wanted c.is_longer-is_long.result (Cut n e)) zs c.commit_where.ensures.part c.in_ok-commit_where.ensures.all c.commit_where-2.ensures.part)

pub returns-clause-part : goal.returns-clause-part
returns-clause-part g c =
    let n = Vhd c.args.image in
    let e = c.args.extents in
    let zs : List Change = Remove (Inflate c.args.image e) ∷ [] in
    let is : c.is_longer-is_long.result ≡ of_row (is_longer e) (rows (table_alone (g.S.Store.table c.args.store.now)) n) =
    c.is_longer-is_long.ensures ∙ ap (λ k. of_row (is_longer e) (rows (table_alone k) n)) c.table.ensures.table in
    subst (λ b. MakesPart g.S.Store (wanted b (Cut n e) ++ zs) c.args.store.now c.commit_where-2.new.store) is
    (then_part (wanted c.is_longer-is_long.result (Cut n e)) zs c.commit_where.ensures.part c.in_ok-commit_where.ensures.all c.commit_where-2.ensures.part)
