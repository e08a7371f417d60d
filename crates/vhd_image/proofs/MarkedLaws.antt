-- What a write of the marked sectors of a block leaves of a raw image.
use Rattle.std.proofs.Common.{◌≡◌, ℕ, ◌+◌, ◌*◌, ◌<◌, ◌≤◌, nat_lt, cond, List, Some, None, sym, ap, ◌∙◌, subst₂, ⊎_elim, arith}
use Rattle.std.proofs.lemmas.Bool.{lt-ltb}
use Rattle.sm_base.specs.declared.names.Name.{Name}
use Rattle.sm_base.specs.declared.sizes.Geometry.{Geometry}
use Rattle.sm_disk.specs.Held.{Held, Reaches, reads}
use Rattle.vhd_write.specs.Marks.{HasMarked, PutsMarked, PutsMarkedIn}
use Rattle.vhd_image.specs.Written.{HasPut}
use Rattle.vhd_image.specs.declared.images.Body.TheVariants.{Raw}

pub raw_put : (g : Geometry) (n : ℕ) (volume : Name) (size block at count : ℕ) (marks bytes : List ℕ) {old new : Held} → at ≡ block * g.block → count ≡ g.block → block * g.block + g.block ≤ size
    → Reaches (PutsMarked count at marks bytes) old new → HasMarked at marks bytes 0 count (reads new) → HasPut g n (Raw volume size) (PutsMarkedIn g.block block marks bytes) old new
raw_put g n volume size block at count marks bytes {old} {new} is wide within reaches done = record {
  inside = λ s v h.
      let low : s < size = omega (arith, h.here, h.within, within) in
      let read : reads new s ≡ v = ap (reads new) (let e : s ≡ at + h.i = omega (arith, h.here, is) in e) ∙ (done h.i (omega arith) (omega (arith, h.within, wide)) h.marked ∙ sym h.is) in
      ap (λ c. cond c (Some (reads new s)) None) (lt-ltb s size low) ∙ ap Some read;
  outside = λ s none. ap (λ x. cond (nat_lt s size) (Some x) None) (⊎_elim (λ same. same) (λ h. absurd (none (reads new s) (subst₂ (λ k p. PutsMarked k p marks bytes s (reads new s)) wide is h))) (reaches.gives s));
}
