use Rattle.std.proofs.Common.{◌≡◌, ◌⊎◌, inl, inr, List, ℕ, Result, Ok, Err, OnOk, OnErr, subst, ◌∙◌}
use Rattle.sm_cache.specs.Kept.{same_spot, with_entry}
use Rattle.sm_cache.proofs.EntryLaws.{entered_put}
use Rattle.sm_cache.proofs.kept.remember.Goals as goal

either : {T E A B C : Type 0} (r : Result T E) → OnOk r A → OnErr r B → (A → C) → C ⊎ B
either (Ok x) a b f = inl (f a)
either (Err e) a b f = inr b

pub returns : goal.returns
unfolding same_spot
returns c = either c.put.result c.put.ensures.entries c.put.ensures.err (λ ok.
    subst (λ (bytes : List ℕ). c.put.new.self ≡ with_entry c.args.volume.now c.args.at bytes c.args.kept.now) c.copy_from_slice.ensures.after
    (ok ∙ entered_put c.args.kept.now c.args.volume.now c.args.at c.copy_from_slice.new.self c.requires.none))
