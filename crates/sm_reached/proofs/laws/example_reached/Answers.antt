use Rattle.std.proofs.Common.{◌≡◌, Bool, true, false, List, [], ◌∷◌, ℕ, Option, Some, None, refl, sym, ap, ◌∙◌, inl, inr}
use Rattle.std.specs.Str.{bytes_eq}
use Rattle.std.proofs.lemmas.Bool.{true≢false}
use Rattle.sm_machine.specs.declared.commands.Command.TheVariants.{Attach, Create, Fill, Snapshot, Track}
use Rattle.sm_base.specs.declared.operations.Mode.TheVariants.{Rw}
use Rattle.sm_machine.specs.Refusals.{new_uuid}
use Rattle.sm_reached.specs.Examples.{between, disk, first, new, second, turns}
use Rattle.sm_reached.specs.Reached.{AreSnapshotsOf, MakesNone, accepted_in}
use Rattle.sm_reached.proofs.Opener.{opener}
use Rattle.sm_reached.proofs.laws.example_reached.Goals as goal

apart : Some second ≡ Some first → ⊥
apart e = true≢false (sym (ap test e))
  where
    test : Option (List ℕ) → Bool
    test None = false
    test (Some u) = bytes_eq u first

not_none : None ≡ Some first → ⊥
not_none e = cc

makes_none : MakesNone first (Fill disk 128 1 170 ∷ Snapshot disk second ∷ [])
unfolding new_uuid
makes_none c (inl e) q = not_none (sym (ap new_uuid e) ∙ q)
makes_none c (inr (inl e)) q = apart (sym (ap new_uuid e) ∙ q)
makes_none c (inr (inr h)) q = absurd h

made : AreSnapshotsOf disk first second between (accepted_in new turns)
unfolding opener
made = record {
  front = Create disk 131072 false (120 ∷ []) ∷ Track disk true ∷ Attach disk Rw ∷ [];
  rest = [];
  order = refl;
  earlier = makes_none;
  later = λ c h q. h;
}

pub returns : goal.returns
unfolding opener
returns c = record { made = made; told = refl; reached = refl; other = refl; back = refl }
