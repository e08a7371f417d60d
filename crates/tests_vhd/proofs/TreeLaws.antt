-- A tree of images that stand in a store, when one more is put in.
use Rattle.std.proofs.Common.{◌≡◌, List, inl, inr, sym, subst}
use Rattle.common_laws.specs.Lists.{In}
use Rattle.common_laws.proofs.Lists.{In-insert}
use Rattle.vg_volumes.specs.Stored.{Stored}
use Rattle.vhd_image.specs.Bodies.{ImageStands}
use Rattle.vhd_chain.specs.Reading.{AllStand}
use Rattle.vhd_chain.specs.Trees.{is_before, with_row}
use Rattle.vhd_chain.specs.declared.rows.TreeRow.{TreeRow}

pub all-stand-put : (x : Stored) (old new : List TreeRow) (row : TreeRow) → AllStand x old → ImageStands x row.image → new ≡ with_row row old → AllStand x new
all-stand-put x old new row all one e = λ r among. elim (In-insert is_before row old r (subst (In r) e among)) [
  | inl same ↦ subst (λ (s : TreeRow). ImageStands x s.image) (sym same) one
  | inr was ↦ all r was
]
