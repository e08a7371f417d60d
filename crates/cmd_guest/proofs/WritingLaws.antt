-- What a write into a disk's own image is to the volume of that disk.
use Rattle.std.proofs.Common.{◌≡◌, ℕ, List, Some, sym, ap, ◌∙◌, subst}
use Rattle.std.proofs.lemmas.Option.{same_Some}
use Rattle.vg_volumes.specs.Stored.{WorksOn, sectors_in, stored}
use Rattle.vg_volumes.specs.declared.stores.Store.{Ghosts}
use Rattle.vhd_volumes.specs.Steps.{Does}
use Rattle.vhd_chain.specs.Trees.{row_name, tree_row}
use Rattle.vhd_chain.specs.declared.rows.TreeRow.{TreeRow}
use Rattle.vhd_image.specs.Written.{BodyKeepsToPlaces}
use Rattle.sm_ready.specs.declared.memory.Memory.{Memory}
use Rattle.cmd_guest.specs.Writing.{WritesOnly, own_name}

pub writes_only : {S : Type 0} (g : Ghosts S) (a b : S) (m : Memory) (u : List ℕ) (at : ℕ) (bytes : List ℕ) (r : TreeRow) → own_name m.tree.rows u ≡ row_name r → tree_row m.tree.rows (row_name r) ≡ Some r
    → WorksOn g (row_name r) a b → Does g (row_name r) (BodyKeepsToPlaces (g.site a).geometry (sectors_in (stored g a) (row_name r)) r.image at bytes) a b → WritesOnly g m u at bytes a b
writes_only g a b m u at bytes r name found works places = record {
  works = subst (λ n. WorksOn g n a b) (sym name) works;
  places = λ q is.
      let same : r ≡ q = same_Some r q (sym found ∙ ap (tree_row m.tree.rows) (sym name) ∙ is) in
      subst (λ (x : TreeRow). Does g (own_name m.tree.rows u) (BodyKeepsToPlaces (g.site a).geometry (sectors_in (stored g a) (own_name m.tree.rows u)) x.image at bytes) a b) same
      (subst (λ n. Does g n (BodyKeepsToPlaces (g.site a).geometry (sectors_in (stored g a) n) r.image at bytes) a b) (sym name) places);
}
