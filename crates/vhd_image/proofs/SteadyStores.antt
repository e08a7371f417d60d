-- A steady image in its volume of a store: what the calls' clauses say of it.
use Rattle.std.proofs.Common.{◌≡◌, ℕ, ◌*◌, List, ◌++◌, Option, None, replicate, refl, sym, ap, subst, subst₂, ⊎_elim}
use Rattle.sm_base.specs.Numbers.{IsGeometry}
use Rattle.sm_base.specs.declared.names.Name.{Name}
use Rattle.sm_disk.specs.Held.{Held, Allows, IsSettled, Keeps}
use Rattle.sm_disk.proofs.HeldLaws.{Allows-from_reads}
use Rattle.vg_meta.specs.Tables.{VolumeTable, rows, extents_of}
use Rattle.vg_volumes.specs.Commits.{IsEither}
use Rattle.vg_volumes.specs.Sites.{Site, area_size}
use Rattle.vg_volumes.specs.Stored.{Stored, stored, sectors_in, held_in, Stays, WorksOn}
use Rattle.vg_volumes.proofs.CallLaws.{keeps_in}
use Rattle.vg_volumes.proofs.StoredLaws.{size_stays, stays_then}
use Rattle.vg_volumes.specs.Volumes.{AreIn, piece, span, spot, volume}
use Rattle.vg_volumes.specs.declared.stores.Store.{Ghosts}
use Rattle.vg_volumes.proofs.SpotLaws.{spot_below}
use Rattle.vg_volumes.proofs.VolumeLaws.{Keeps-volume, KeepsAt-keeps, KeepsAt-then, IsSettled-volume, volume_may}
use Rattle.vhd_volumes.specs.declared.heads.Head.{Head}
use Rattle.vhd_volumes.specs.Steady.{IsLeftImage}
use Rattle.vhd_volumes.specs.Steps.{Holds, Does}
use Rattle.vhd_volumes.specs.Truth.{layout_now}
use Rattle.vhd_volumes.specs.Writes.{KeepsHeads}
use Rattle.vhd_volumes.proofs.SteadyLaws.{Keeps-beside, KeepsAt-longer, KeepsAt-shorter, guarded_left, steady_left}
use Rattle.vhd_image.specs.Bodies.{IfVhd, IfVhdDoes, IsVhd, TrueIn, volume_name}
use Rattle.vhd_image.specs.Changes.{ChangesBy, EndsAt, IsRelinked, IsResized, StaysTrueIn, relinked, resized, with_parent, with_size}
use Rattle.vhd_image.specs.Made.{IsNewImage}
use Rattle.vhd_image.specs.Steady.{AreApart, IsSteady, ImageIsSteady}
use Rattle.vhd_image.specs.Written.{IsWriting, MayHaveGrown}
use Rattle.vhd_image.specs.declared.images.Body.{Body}
use Rattle.vhd_image.specs.declared.images.Body.TheVariants.{Raw, Vhd}
use Rattle.vhd_image.proofs.SteadyLaws.{body_keeps, body_kept, body_written, steady_made, steady_resized, steady_relinked, steady_ended, steady_at_end}

-- where the extents of its volume stay, and what they hold
steady_there : (x y : Stored) (body : Body) → y.site ≡ x.site → extents_of (rows y.table (volume_name body)) ≡ extents_of (rows x.table (volume_name body))
    → Keeps (held_in x (volume_name body)) (volume x.site.geometry.extent (extents_of (rows x.table (volume_name body))) y.area) → ImageIsSteady x body → ImageIsSteady y body
steady_there x y body site extents keeps was =
    subst₂ (λ (s : Site) (es : List ℕ). IsSteady s.geometry (span s.geometry.extent es) (volume s.geometry.extent es y.area) body) (sym site) (sym extents)
    (body_keeps x.site.geometry (sectors_in x (volume_name body)) body keeps was)

-- a steady image stays so over a sync, and over a commit, failed or not, that leaves the extents of its volume
pub steady_area : (x y : Stored) (body : Body) → y.site ≡ x.site → extents_of (rows y.table (volume_name body)) ≡ extents_of (rows x.table (volume_name body))
    → Keeps x.area y.area → ImageIsSteady x body → ImageIsSteady y body
steady_area x y body site extents keeps was = steady_there x y body site extents (Keeps-volume _ _ keeps) was

-- over a commit that gives its volume more extents, where it lies
pub steady_more : (x y : Stored) (body : Body) (more : List ℕ) → IsGeometry x.site.geometry.extent x.site.geometry.block x.site.geometry.entries → y.site ≡ x.site
    → extents_of (rows y.table (volume_name body)) ≡ extents_of (rows x.table (volume_name body)) ++ more → Keeps x.area y.area → ImageIsSteady x body
    → IsSteady x.site.geometry (sectors_in x (volume_name body)) (held_in y (volume_name body)) body
steady_more x y body more ok site extents keeps was =
    subst₂ (λ (s : Site) (es : List ℕ). IsSteady x.site.geometry (sectors_in x (volume_name body)) (volume s.geometry.extent es y.area) body) (sym site) (sym extents)
    (body_kept x.site.geometry (sectors_in x (volume_name body)) body _ _ ok (KeepsAt-then (KeepsAt-keeps _ (Keeps-volume _ _ keeps)) (KeepsAt-longer _ _ more y.area)) was)

-- and over one that takes extents behind it
pub steady_fewer : (x y : Stored) (body : Body) (taken : List ℕ) → IsGeometry x.site.geometry.extent x.site.geometry.block x.site.geometry.entries → y.site ≡ x.site
    → extents_of (rows x.table (volume_name body)) ≡ extents_of (rows y.table (volume_name body)) ++ taken → Keeps x.area y.area
    → IsSteady x.site.geometry (span x.site.geometry.extent (extents_of (rows y.table (volume_name body)))) (held_in x (volume_name body)) body → ImageIsSteady y body
steady_fewer x y body taken ok site extents keeps was =
    let e = x.site.geometry.extent in
    let es = extents_of (rows y.table (volume_name body)) in
    let there = subst (λ (all : List ℕ). IsSteady x.site.geometry (span e es) (volume e all x.area) body) extents was in
    subst (λ (s : Site). IsSteady s.geometry (span s.geometry.extent es) (volume s.geometry.extent es y.area) body) (sym site)
    (body_kept x.site.geometry (span e es) body _ _ ok (KeepsAt-then (KeepsAt-shorter e es taken x.area) (KeepsAt-keeps _ (Keeps-volume e es keeps))) there)

-- what is steady by the site and the table from before
steady_then : {S : Type 0} (g : Ghosts S) {a c : S} (body : Body) (n : Name) → Stays g a c → volume_name body ≡ n
    → IsSteady (g.site a).geometry (sectors_in (stored g a) n) (held_in (stored g c) n) body → ImageIsSteady (stored g c) body
steady_then g {a} {c} body n stays same was =
    subst (λ n. IsSteady (g.site c).geometry (sectors_in (stored g c) n) (held_in (stored g c) n) body) (sym same)
    (subst₂ (λ (s : Site) (t : VolumeTable). IsSteady s.geometry (span s.geometry.extent (extents_of (rows t n))) (held_in (stored g c) n) body) (sym stays.site) (sym stays.table) was)

module _ {S : Type 0} (g : Ghosts S) (told : g.told) {a b : S} where
  -- over work on another volume
  pub steady_beside : (other : Name) (body : Body) → WorksOn g other a b → AreApart (stored g a) (volume_name body) other
      → ImageIsSteady (stored g a) body → ImageIsSteady (stored g b) body
  steady_beside other body works apart was =
      steady_there (stored g a) (stored g b) body works.stays.site (ap (λ (t : VolumeTable). extents_of (rows t (volume_name body))) works.stays.table)
      (Keeps-beside _ _ _ apart (works.elsewhere told)) was

  -- over a guest's write that succeeded, by the clauses of `Image::write`
  pub steady_write : (at : ℕ) (bytes : List ℕ) (old new : Body) → WorksOn g (volume_name old) a b
      → Does g (volume_name old) (IsWriting (g.site a).geometry (sectors_in (stored g a) (volume_name old)) old at bytes) a b
      → IfVhdDoes g old (λ head m. KeepsHeads (sectors_in (stored g a) head.volume)) a b → MayHaveGrown old new
      → Holds g (volume_name old) (λ h. TrueIn (g.site a).geometry (sectors_in (stored g a) (volume_name old)) h new) b
      → ImageIsSteady (stored g a) old → ImageIsSteady (stored g b) new
  steady_write at bytes old new works writing heads grown now was = steady_then g new (volume_name old) works.stays (same_name old new grown)
      (body_written (g.site a).geometry (sectors_in (stored g a) (volume_name old)) at bytes old new
      (held_in (stored g a) (volume_name old)) (held_in (stored g b) (volume_name old)) (writing told) (heads_of old (heads told)) grown (now told) was)
    where
      same_name : (old new : Body) → MayHaveGrown old new → volume_name new ≡ volume_name old
      same_name (Raw volume size) new is = ap volume_name is
      same_name (Vhd head m) new (after, is, more) = ap volume_name is

      heads_of : (old : Body) → IfVhd old (λ head m. KeepsHeads (sectors_in (stored g a) head.volume) (held_in (stored g a) head.volume) (held_in (stored g b) head.volume))
          → IfVhd old (λ head m. KeepsHeads (sectors_in (stored g a) (volume_name old)) (held_in (stored g a) (volume_name old)) (held_in (stored g b) (volume_name old)))
      heads_of (Raw volume size) is = is
      heads_of (Vhd head m) is = is

-- ---- once a call's writes are synced

module _ {S : Type 0} (g : Ghosts S) (told : g.told) {a b c : S} (stays : Stays g b c) (keeps : Keeps (g.area b) (g.area c)) (settled : IsSettled (g.area c)) where
  -- an image that was made
  pub steady_make : (head : Head) → IsGeometry (g.site a).geometry.extent (g.site a).geometry.block (g.site a).geometry.entries → WorksOn g head.volume a b
      → Holds g head.volume (IsNewImage (stored g a) head) b → ImageIsSteady (stored g c) (Vhd head (replicate (g.site a).geometry.entries None))
  steady_make head ok works is = steady_then g (Vhd head (replicate (g.site a).geometry.entries None)) head.volume (stays_then works.stays stays) refl
      (steady_made (g.site a).geometry (sectors_in (stored g a) head.volume) head ok (is told) (keeps_in head.volume stays keeps) (IsSettled-volume _ _ (g.area c) settled))

  -- an image whose size was set
  pub steady_set_size : (sectors : ℕ) (old new : Body) → IsVhd old → WorksOn g (volume_name old) a b
      → IfVhdDoes g old (λ head m. ChangesBy (layout_now (stored g a) head) (IsResized (layout_now (stored g a) head) sectors)) a b → new ≡ resized sectors old
      → Holds g (volume_name old) (λ h. TrueIn (g.site a).geometry (sectors_in (stored g a) (volume_name old)) h new) b
      → ImageIsSteady (stored g a) old → ImageIsSteady (stored g c) new
  steady_set_size sectors (Raw volume size) new vhd works by is now was = absurd vhd
  steady_set_size sectors (Vhd head m) new vhd works by is now was =
      subst (ImageIsSteady (stored g c)) (sym is) (steady_then g (Vhd (with_size head sectors) m) head.volume (stays_then works.stays stays) refl
      (steady_resized (g.site a).geometry (sectors_in (stored g a) head.volume) head m _ _ _ (keeps_in head.volume stays keeps) (IsSettled-volume _ _ (g.area c) settled) was sectors (by told)
      (subst (λ x. TrueIn (g.site a).geometry (sectors_in (stored g a) head.volume) (held_in (stored g b) head.volume) x) is (now told))))

  -- an image whose parent was set
  pub steady_set_parent : (parent old new : Body) → IsVhd old → WorksOn g (volume_name old) a b
      → IfVhdDoes g old (λ head m. ChangesBy (layout_now (stored g a) head) (IsRelinked (layout_now (stored g a) head) (volume_name parent))) a b → new ≡ relinked parent old
      → Holds g (volume_name old) (λ h. TrueIn (g.site a).geometry (sectors_in (stored g a) (volume_name old)) h new) b
      → ImageIsSteady (stored g a) old → ImageIsSteady (stored g c) new
  steady_set_parent parent (Raw volume size) new vhd works by is now was = absurd vhd
  steady_set_parent parent (Vhd head m) new vhd works by is now was =
      subst (ImageIsSteady (stored g c)) (sym is) (steady_then g (Vhd (with_parent head parent) m) head.volume (stays_then works.stays stays) refl
      (steady_relinked (g.site a).geometry (sectors_in (stored g a) head.volume) head m _ _ _ (keeps_in head.volume stays keeps) (IsSettled-volume _ _ (g.area c) settled) was parent (by told)
      (subst (λ x. TrueIn (g.site a).geometry (sectors_in (stored g a) head.volume) (held_in (stored g b) head.volume) x) is (now told))))

  -- an image that got one footer more, where it lies
  pub steady_end : (body : Body) → IsVhd body → WorksOn g (volume_name body) a b → IfVhdDoes g body (StaysTrueIn (g.site a).geometry) a b
      → ImageIsSteady (stored g a) body → ImageIsSteady (stored g c) body
  steady_end (Raw volume size) vhd works by was = absurd vhd
  steady_end (Vhd head m) vhd works by was = steady_then g (Vhd head m) head.volume (stays_then works.stays stays) refl
      (steady_ended (g.site a).geometry (sectors_in (stored g a) head.volume) head m _ _ _ (keeps_in head.volume stays keeps) (IsSettled-volume _ _ (g.area c) settled) was (by told))

  -- and where it is to end: so it is steady there before the commit that lets it end there
  pub steady_end_at : (extents : ℕ) (body : Body) → IsVhd body → IsGeometry (g.site a).geometry.extent (g.site a).geometry.block (g.site a).geometry.entries
      → IfVhdDoes g body (StaysTrueIn (g.site a).geometry) a b → IfVhdDoes g body (EndsAt (g.site a).geometry (extents * (g.site a).geometry.extent)) a b
      → ImageIsSteady (stored g a) body → IsSteady (g.site a).geometry (extents * (g.site a).geometry.extent) (held_in (stored g c) (volume_name body)) body
  steady_end_at extents (Raw volume size) vhd ok by ends was = absurd vhd
  steady_end_at extents (Vhd head m) vhd ok by ends was =
      steady_at_end (g.site a).geometry (sectors_in (stored g a) head.volume) head m _ _ _ (keeps_in head.volume stays keeps) (IsSettled-volume _ _ (g.area c) settled) was
      (extents * (g.site a).geometry.extent) ok (by told) (ends told)

-- ---- what a stop leaves of a store

-- of a volume it leaves what it may leave there
pub piece_allowed : (size x : ℕ) (es : List ℕ) (area : Held) (image : ℕ → List ℕ) → AreIn size x es → Allows size area image → Allows (span x es) (volume x es area) (piece x es image)
unfolding piece
piece_allowed size x es area image are_in allows p below = volume_may x es area p (image (spot x es p)) below (allows (spot x es p) (spot_below p are_in below))

-- before a commit and in one a stop leaves no sector that it could not leave before
pub either_allowed : (size : ℕ) (table next left : VolumeTable) (area : Held) (image : ℕ → List ℕ) → IsEither size table next area left image → Allows size area image
either_allowed size table next left area image either = ⊎_elim (λ before. before.sectors) (λ after. Allows-from_reads size area image after.sectors) either

-- in whichever table the extents of its volume stay, a steady image is there, valid, with its size, its parent and a sector in each slot
pub steady_stop : (x : Stored) (head : Head) (m : List (Option ℕ)) (left : VolumeTable) (image : ℕ → List ℕ) → AreIn (area_size x.site) x.site.geometry.extent (extents_of (rows x.table head.volume))
    → ImageIsSteady x (Vhd head m) → Allows (area_size x.site) x.area image → extents_of (rows left head.volume) ≡ extents_of (rows x.table head.volume)
    → IsLeftImage x.site.geometry (sectors_in x head.volume) head (piece x.site.geometry.extent (extents_of (rows left head.volume)) image)
steady_stop x head m left image are_in was allows same =
    subst (λ es. IsLeftImage x.site.geometry (sectors_in x head.volume) head (piece x.site.geometry.extent es image)) (sym same)
    (steady_left x.site.geometry (sectors_in x head.volume) head m _ was (piece_allowed (area_size x.site) _ _ x.area image are_in allows))

-- so at any moment of a guest's write, and after one that failed
pub written_stop : {S : Type 0} (g : Ghosts S) (told : g.told) {a b : S} (at : ℕ) (bytes : List ℕ) (head : Head) (m : List (Option ℕ)) (image : ℕ → List ℕ) → WorksOn g head.volume a b
    → Does g head.volume (IsWriting (g.site a).geometry (sectors_in (stored g a) head.volume) (Vhd head m) at bytes) a b
    → AreIn (area_size (g.site b)) (g.site b).geometry.extent (extents_of (rows (stored g b).table head.volume)) → ImageIsSteady (stored g a) (Vhd head m) → Allows (area_size (g.site b)) (g.area b) image
    → IsLeftImage (g.site a).geometry (sectors_in (stored g a) head.volume) head (piece (g.site b).geometry.extent (extents_of (rows (stored g b).table head.volume)) image)
written_stop g told {a} {b} at bytes head m image works writing are_in was allows =
    let left = piece (g.site b).geometry.extent (extents_of (rows (stored g b).table head.volume)) image in
    let there = piece_allowed (area_size (g.site b)) _ _ (g.area b) image are_in allows in
    guarded_left (g.site a).geometry (sectors_in (stored g a) head.volume) head m _ left was (writing told)
    (subst (λ k. Allows k (held_in (stored g b) head.volume) left) (size_stays head.volume works.stays) there)
