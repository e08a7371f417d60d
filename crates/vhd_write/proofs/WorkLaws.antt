-- What the calls of a step leave of the image's place in its volume.
use Rattle.std.proofs.Common.{◌≡◌, ℕ, ◌≤◌, sym, ap₂, subst₂, ◌+◌, arith}
use Rattle.std.proofs.lemmas.Nat.{mul-le}
use Rattle.sm_base.specs.declared.names.Name.{Name}
use Rattle.sm_base.specs.declared.sizes.Geometry.{Geometry}
use Rattle.vg_volumes.specs.Sites.{Site}
use Rattle.vg_volumes.specs.Stored.{stored, WorksOn}
use Rattle.vg_volumes.specs.declared.stores.Store.{Ghosts}
use Rattle.vg_volumes.proofs.StoredLaws.{size_stays}
use Rattle.vhd_volumes.specs.declared.heads.Head.{Head}
use Rattle.vhd_volumes.specs.Truth.{HasRoomFor, HasRoomIn, layout_in, layout_now}

module _ {S : Type 0} {g : Ghosts S} where
  -- the image has the same layout
  pub works_layout : (head : Head) {a b : S} → WorksOn g head.volume a b → layout_now (stored g b) head ≡ layout_now (stored g a) head
  works_layout head w = ap₂ (λ (x : Site) (n : ℕ). layout_in x.geometry head.footer n) w.stays.site (size_stays head.volume w.stays)

  -- and the same room
  pub works_room : {n : Name} {a b : S} (top : ℕ) → WorksOn g n a b → HasRoomIn (stored g a) n top → HasRoomIn (stored g b) n top
  works_room {n} top w h = subst₂ (λ (x : Site) (k : ℕ). HasRoomFor x.geometry top k) (sym w.stays.site) (sym (size_stays n w.stays)) h

-- fewer slots have room where more have
pub room-less : (g : Geometry) (few many n : ℕ) → few ≤ many → HasRoomFor g many n → HasRoomFor g few n
room-less g few many n h room = let part = mul-le few (1 + g.block) many (1 + g.block) h (omega arith) in omega (arith, part, room)
