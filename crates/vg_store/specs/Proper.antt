-- That a group stands on an image has one proof at most, so a group can carry it.
use Rattle.std.specs.Prelude.{◌≡◌, ℕ, List}
use Rattle.std.proofs.Common.{subst}
use Rattle.std.proofs.Props.{props}
use Rattle.vg_meta.specs.Tables.{VolumeTable}
use Rattle.vg_meta.specs.Proper.{IsName-prop}
use Rattle.vg_layout.specs.Sectors.{Plate, Pointer}
use Rattle.vg_layout.specs.Opening.{GroupFound, StandsOn}
use Rattle.vg_store.specs.Groups.{GroupStands}
use Rattle.vg_layout.proofs.StandingLaws.{plate_few, pointer_once, stands_once}

StandsOn-prop : (size : ℕ) (image : ℕ → List ℕ) (g : GroupFound) → IsProp (StandsOn size image g)
StandsOn-prop size image g = hlevel (props, IsName-prop)

-- an image shows one pointer and one table
pub GroupStands-prop : (size : ℕ) (image : ℕ → List ℕ) (p : Plate) → IsProp (GroupStands size image p)
GroupStands-prop size image p a b =
    let few = plate_few size image p a.stands.labelled in
    tables b.table (stands_once size image p a.pointer b.pointer a.table b.table few a.stands b.stands)
    b.pointer (pointer_once size image p a.pointer b.pointer a.table b.table a.stands b.stands) b.stands
  where
    shown : (h : Pointer) (t : VolumeTable) → StandsOn size image (record { plate = p; pointer = h; table = t }) → GroupStands size image p
    shown h t s = record { pointer = h; table = t; stands = s }

    pointers : (h : Pointer) → a.pointer ≡ h → (s : StandsOn size image (record { plate = p; pointer = h; table = a.table })) → a ≡ shown h a.table s
    pointers h e = subst (λ k. (s : StandsOn size image (record { plate = p; pointer = k; table = a.table })) → a ≡ shown k a.table s) e
        (λ s i. record { pointer = a.pointer; table = a.table; stands = StandsOn-prop size image (record { plate = p; pointer = a.pointer; table = a.table }) a.stands s i })

    tables : (t : VolumeTable) → a.table ≡ t → (h : Pointer) → a.pointer ≡ h → (s : StandsOn size image (record { plate = p; pointer = h; table = t })) → a ≡ shown h t s
    tables t e = subst (λ u. (h : Pointer) → a.pointer ≡ h → (s : StandsOn size image (record { plate = p; pointer = h; table = u })) → a ≡ shown h u s) e pointers
