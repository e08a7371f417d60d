use Rattle.std.proofs.Common.{◌≡◌, None, Some, refl, sym, subst, rules}
use Rattle.vg_meta.specs.Roomy.{table_alone}
use Rattle.sm_standing.specs.Entries.{head, making}
use Rattle.sm_ready.specs.Runs.{AllMay}
use Rattle.sm_recover.specs.Steps.{MakesAll, MakesPart}
use Rattle.sm_checks.proofs.EntryLaws.{changes_none, changes_some}
use Rattle.sm_recover.proofs.undoing.undo_making.Goals as goal

pub returns-in_default-clause-all : goal.returns-in_default-clause-all
returns-in_default-clause-all g c =
    let t = table_alone (g.S.Store.table c.args.store.now) in
    let none : head (making t) ≡ None = search rules in
    subst (λ cs. MakesAll g.S.Store cs c.args.store.now c.args.store.now) (sym (changes_none t none)) (record { usable = c.requires.usable; table = refl; room = λ had. had; settled = λ told was. was })

pub undo_entry-requires-clause-allowed : goal.undo_entry-requires-clause-allowed
undo_entry-requires-clause-allowed g c =
    let t = table_alone (g.S.Store.table c.args.store.now) in
    let found : head (making t) ≡ Some c.in-Some.entry = search rules in
    subst (AllMay (g.S.Store.site c.args.store.now).count t) (changes_some t c.in-Some.entry found) c.requires.allowed

pub returns-in_err-undo_entry-clause-part : goal.returns-in_err-undo_entry-clause-part
returns-in_err-undo_entry-clause-part g c =
    let t = table_alone (g.S.Store.table c.args.store.now) in
    let found : head (making t) ≡ Some c.in-Some.entry = search rules in
    subst (λ cs. MakesPart g.S.Store cs c.args.store.now c.undo_entry.new.store) (sym (changes_some t c.in-Some.entry found)) c.undo_entry.ensures.part

pub returns-clause-part : goal.returns-clause-part
returns-clause-part g c =
    let t = table_alone (g.S.Store.table c.args.store.now) in
    let found : head (making t) ≡ Some c.in-Some.entry = search rules in
    subst (λ cs. MakesPart g.S.Store cs c.args.store.now c.undo_entry.new.store) (sym (changes_some t c.in-Some.entry found)) c.undo_entry.ensures.part

pub returns-clause-all : goal.returns-clause-all
returns-clause-all g c =
    let t = table_alone (g.S.Store.table c.args.store.now) in
    let found : head (making t) ≡ Some c.in-Some.entry = search rules in
    subst (λ cs. MakesAll g.S.Store cs c.args.store.now c.undo_entry.new.store) (sym (changes_some t c.in-Some.entry found)) c.in_ok-undo_entry.ensures.all
