-- What stays where a store was only read.
use Rattle.std.proofs.Common.{◌≡◌, ℕ, List, sym, ap, ap₂, ◌∙◌, subst, subst₂}
use mathlib.Core.Path.{fun_ext}
use Rattle.sm_disk.specs.Held.{Held, SameHeld}
use Rattle.vg_meta.specs.Tables.{VolumeTable}
use Rattle.vg_volumes.specs.Sites.{Site, size_of}
use Rattle.vg_volumes.specs.Stored.{Stored, stored, OnlyReads}
use Rattle.vg_volumes.specs.declared.stores.Store.{Ghosts}
use Rattle.vhd_image.specs.declared.images.Body.{Body}
use Rattle.vhd_image.specs.Bodies.{StandsIn, volume_name, ImageStands, ImageIsTrue}

abbrev held-of : (ℕ → List ℕ) → (ℕ → List (List ℕ)) → Held
held-of floor pending = record { floor = floor; pending = pending }

abbrev stored-of : Site → VolumeTable → Held → Stored
stored-of site table area = record { site = site; table = table; area = area }

same-held : {a b : Held} → SameHeld a b → b ≡ a
same-held s = ap₂ held-of (fun_ext s.floor) (fun_ext s.pending)

module _ {S : Type 0} {g : Ghosts S} {a b : S} (r : OnlyReads g a b) where
  -- what the store holds
  pub same-stored : g.told → stored g b ≡ stored g a
  same-stored told =
      ap₂ (λ (x : Site) (t : VolumeTable). stored-of x t (g.area b)) r.stays.site r.stays.table
      ∙ ap (stored-of (g.site a) (stored g a).table) (same-held (r.held told))

  -- an image that stands and one that is true
  pub stands-still : (body : Body) → ImageStands (stored g a) body → ImageStands (stored g b) body
  stands-still body stands = subst₂ (λ (x : Site) (t : VolumeTable). StandsIn x.geometry (size_of x t (volume_name body)) body) (sym r.stays.site) (sym r.stays.table) stands

  pub true-still : (body : Body) → g.told → ImageIsTrue (stored g a) body → ImageIsTrue (stored g b) body
  true-still body told is = subst (λ (x : Stored). ImageIsTrue x body) (sym (same-stored told)) is
