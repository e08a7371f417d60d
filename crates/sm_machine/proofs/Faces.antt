-- Images that users see, before and after a change.
use Rattle.std.proofs.Common.{◌≡◌, Bool, false, List, map, refl, sym, ap, ◌∙◌}
use Rattle.std.specs.List.{filter}
use Rattle.common_laws.specs.Lists.{In}
use Rattle.sm_machine.specs.Shapes.{ImageRow, image_uuid}
use Rattle.common_laws.proofs.Lists.{In-map, In-filter}

-- an image that users saw, with this UUID and size
abbrev pub WasSeen : List ImageRow → ImageRow → Type 0
WasSeen images i = (j : ImageRow) × In j images × (j.hidden ≡ false) × (image_uuid j.name ≡ image_uuid i.name) × (j.size ≡ i.size)

-- each image that users see was one that they saw
abbrev pub AreSeen : List ImageRow → List ImageRow → Type 0
AreSeen old new = (i : ImageRow) → In i new → i.hidden ≡ false → WasSeen old i

pub seen_same : (images : List ImageRow) → AreSeen images images
seen_same images i h e = (i, h, e, refl, refl)

pub seen_filter : (t : ImageRow → Bool) (images : List ImageRow) → AreSeen images (filter t images)
seen_filter t images i h e = (i, (In-filter t images i h).0, e, refl, refl)

pub seen_map : (g : ImageRow → ImageRow) (images : List ImageRow) → ((y : ImageRow) → image_uuid (g y).name ≡ image_uuid y.name) → ((y : ImageRow) → (g y).hidden ≡ y.hidden) → ((y : ImageRow) → In y images → y.hidden ≡ false → (g y).size ≡ y.size) → AreSeen images (map g images)
seen_map g images names marks sizes i h e =
    let r : (y : ImageRow) × In y images × (i ≡ g y) = In-map g images i h in
    let hid : r.0.hidden ≡ false = sym (ap (λ (x : ImageRow). x.hidden) r.2 ∙ marks r.0) ∙ e in
    (r.0, r.1, hid, sym (ap (λ (x : ImageRow). image_uuid x.name) r.2 ∙ names r.0), sym (ap (λ (x : ImageRow). x.size) r.2 ∙ sizes r.0 r.1 hid))
