-- The end of an import whose file was read whole: its image is sealed and its disk completed, or a call of the store failed.
use Rattle.std.proofs.Common.{◌≡◌, ◌⊎◌, inl, inr, ⊎_elim, ℕ, ◌+◌, ◌-◌, ◌*◌, ◌/◌, ◌^◌, min, Bool, true, false, List, length, map, Option, None, Some, Result, Err, Ok, refl, sym, ap, ap₂, ◌∙◌, subst, subst₂, arith}
use Rattle.std.specs.Int.{div_ceil}
use Rattle.std.specs.Prelude.{IfSome, OnOk}
use Rattle.std.proofs.lemmas.Bool.{true≢false}
use Rattle.common_laws.specs.Lists.{In, numbers}
use Rattle.common_laws.proofs.Lists.{In-insert, In-insert_old}
use Rattle.sm_base.proofs.NumberLemmas.{div_up-div_ceil}
use Rattle.sm_base.specs.Names.{base_uuid}
use Rattle.sm_base.specs.declared.names.Name.{Name}
use Rattle.sm_base.specs.declared.names.Name.TheVariants.{Vhd}
use Rattle.vg_meta.specs.Changes.{tagged}
use Rattle.vg_meta.specs.Tables.{VolumeTable, extents_of}
use Rattle.vg_meta.specs.declared.changes.Tag.TheVariants.{Fresh}
use Rattle.vg_meta.proofs.RowLaws.{row_of-with_row_same}
use Rattle.vhd_chain.specs.Trees.{with_row}
use Rattle.vhd_image.specs.declared.images.Body.{Body}
use Rattle.vhd_image.specs.declared.images.Body.TheVariants as body
use Rattle.sm_ready.proofs.ChainLaws.{tab}
use Rattle.sm_ready.proofs.FramingLaws.{stays_now}
use Rattle.sm_base.specs.declared.sizes.Geometry.{Geometry}
use Rattle.sm_disk.specs.Held.{reads}
use Rattle.sm_machine.specs.Disks.{Disk, with_disk}
use Rattle.sm_standing.specs.Standing.{disks}
use Rattle.sm_ready.specs.Frames.{HasCommits}
use Rattle.sm_ready.specs.Framing.{StepsOn}
use Rattle.sm_ready.specs.Known.{known}
use Rattle.sm_ready.specs.Sessions.{IsReadyStore}
use Rattle.sm_ready.specs.Stores.{store_content}
use Rattle.sm_ready.specs.declared.memory.Memory.{Memory}
use Rattle.vg_volumes.specs.Stored.{WorksOn, held_in, sectors_in, stored}
use Rattle.vg_volumes.specs.declared.stores.Store.{Ghosts}
use Rattle.vhd_volumes.specs.Steps.{Holds}
use Rattle.vhd_volumes.specs.Truth.{layout_now}
use Rattle.vhd_image.specs.Made.{new_head}
use Rattle.vhd_image.specs.Opened.{ReadsAsImage}
use Rattle.vhd_filling.specs.Filled.{HasSectors, held_now}
use Rattle.vhd_filling.specs.declared.fillings.Filling.{Filling}
use Rattle.vhd_import.specs.Progress.{HasMade, IsMadeOf}
use Rattle.vhd_import.specs.Puts.{Put}
use Rattle.vhd_import.specs.Room.{Target}
use Rattle.vhd_import.specs.declared.faults.ImportFault.{ImportFault}
use Rattle.vhd_import.specs.declared.faults.ImportFault.TheVariants.{Device}
use Rattle.sm_importing.specs.Disks.{Begin, HoldsPuts, IsFilled, IsSince}
use Rattle.sm_importing.specs.Endings.{CompletesImporting, marked, row_of}
use Rattle.sm_importing.specs.Imports.{GoesNoLower, ImportsSince, IsImporting, extents_of_volume}
use Rattle.sm_importing.proofs.ImportLaws.{LeavesNow, importing_works, since_works}
use Rattle.sm_importing.proofs.LowerLaws.{lower_same, lower_step}
use Rattle.cmd_import.specs.Ends.{HasMadeIn, import_record, target_from}
use Rattle.cmd_import.specs.Importing.{HasImported, HasNewImage, IsJoined, whole_blocks}
use Rattle.cmd_import.proofs.StillLaws.{since_at}
use Rattle.cmd_import.proofs.MadeLaws.{disk_of, sealed_disk, sectors_made}

-- the sectors are those of whole blocks
pub whole_are : (size ceil from : ℕ) (h : Geometry) → ceil ≡ div_ceil size from → from ≡ h.block → ceil * from ≡ whole_blocks h.block size
whole_are size ceil from h ceil_is from_is =
    ap₂ (λ (x y : ℕ). x * y) (ceil_is ∙ ap (λ b. div_ceil size b) from_is ∙ div_up-div_ceil size h.block (omega (arith, h.in_range.block_least))) from_is

module _ {S : Type 0} (g : Ghosts S) (b d : S) (m : Memory) (u : List ℕ) (f : Filling) (filling : IsFilled g b m u f) (works : WorksOn g f.volume b d) where
  works_on : WorksOn g (Vhd u) b d
  works_on = subst (λ n. WorksOn g n b d) filling.volume works

  pub importing_sealed : IsImporting g d m u
  importing_sealed = importing_works works_on filling.importing

  pub since_sealed : {a : S} → LeavesNow g → ImportsSince g u m a b → ImportsSince g u m a d
  since_sealed leaves since = since_works leaves works_on filling.importing since

  module _ (sectors whole now : ℕ) (uid : List ℕ) (whole_is : whole ≡ whole_blocks f.geometry.block sectors)
      (sealed : Holds g f.volume (λ h. ReadsAsImage (g.site b).geometry (sectors_in (stored g b) f.volume) h (new_head (g.site b).geometry f.volume now whole uid None) f.map) d)
      (held : g.told → HasSectors (layout_now (stored g b) (new_head (g.site b).geometry f.volume now whole uid None)) whole (held_now g f b) (reads (held_in (stored g d) f.volume)))
      (a : S) (bytes : Option (List ℕ)) (leaves : LeavesNow g) (since : ImportsSince g u m a b) (told : g.told) (made : HasMadeIn g f b bytes sectors a m) where
    abbrev disk : Disk
    disk = disk_of (import_record u) (map (held_now g f b) (numbers 0 whole))

    abbrev was : List Disk
    was = disks (store_content g a)

    still_there : (d : Disk) → In d was → In d (with_disk disk was)
    unfolding with_disk
    still_there d i = In-insert_old _ disk was d i

    one_more : (d : Disk) → In d (with_disk disk was) → (d.uuid ≡ u) ⊎ In d was
    unfolding with_disk
    one_more d i = ⊎_elim (λ e. inl (ap (λ (x : Disk). x.uuid) e)) inr (In-insert _ disk was d i)

    one_joined : (o : Option (List ℕ)) → IfSome o (λ bs. IsMadeOf (target_from g a m) bs sectors made.puts) → IfSome o (λ bs. IsJoined (target_from g a m) u bs was (with_disk disk was))
    one_joined None h = tt
    one_joined (Some bs) h = record {
      sectors = h.sectors;
      made = h.made;
      disks_are = ap (λ (x : Disk). with_disk x was)
          (sectors_made g b f (target_from g a m) bs sectors whole made.puts (import_record u) made.held h (whole_is ∙ ap (λ k. whole_blocks k sectors) (sym made.held.blocks.block)) refl refl refl told);
    }

    module _ (e : S) (n : Memory) (ok : Type 0) (completes : CompletesImporting g (import_record u) m d e (known n) ok) where
      pub made_ends : ok → (size : ℕ) → HasImported g u bytes m n a e (Ok size)
      made_ends fine size =
          let done = completes a disk (since_sealed leaves since) told (sealed_disk g b d m f whole now uid (import_record u) importing_sealed filling.volume works sealed held told) in
          record {
            ends = with_disk disk was;
            ends_with = one_joined bytes made.made;
            still = still_there;
            others = one_more;
            done = record {
              ready = λ sure. done.ready fine;
              settled = λ sure. done.settled fine;
              shown = λ sure. done.shown fine;
              crash = λ v image l. done.crash v image l;
              logged = λ v image l. done.logged v image l;
            };
          }

      pub cut_ends : HasImported g u bytes m n a e (Err Device)
      cut_ends =
          let done = completes a disk (since_sealed leaves since) told (sealed_disk g b d m f whole now uid (import_record u) importing_sealed filling.volume works sealed held told) in
          record {
            ends = with_disk disk was;
            ends_with = inr (one_joined bytes made.made);
            still = still_there;
            others = one_more;
            done = record {
              ready = λ sure. absurd (true≢false (sym sure));
              settled = λ sure. absurd (true≢false (sym sure));
              shown = λ sure. absurd (true≢false (sym sure));
              crash = λ v image l. done.crash v image l;
              logged = λ v image l. done.logged v image l;
            };
          }

-- ---- the commits

-- the end makes one commit
pub few_works : {S : Type 0} {g : Ghosts S} {n : Name} {a b : S} → WorksOn g n a b → HasCommits 1 (tab g a) (tab g b)
few_works works = let same = ap (λ (t : VolumeTable). t.sequence) works.stays.table in omega (arith, same)

pub few_then : {S : Type 0} {g : Ghosts S} {n : Name} {a b d : S} → WorksOn g n a b → StepsOn g 1 b d → HasCommits 1 (tab g a) (tab g d)
few_then works steps = let same = ap (λ (t : VolumeTable). t.sequence) works.stays.table in let one = steps.few in omega (arith, same, one)

-- and the number is no lower
pub lower_works : {S : Type 0} {g : Ghosts S} {n : Name} {a b : S} → LeavesNow g → g.failed a ≡ false → WorksOn g n a b → GoesNoLower g a b
lower_works {S} {g} {n} {a} {b} leaves usable works = lower_step (stays_now leaves usable works.stays) (lower_same g a a refl)

-- which leaves the volume its extents
pub marked_extents : {S : Type 0} (g : Ghosts S) (b d e : S) (m : Memory) (u : List ℕ) (f : Filling) → IsFilled g b m u f → WorksOn g f.volume b d → tab g e ≡ marked (tab g d) (Vhd u)
    → extents_of_volume (tab g e) (Vhd u) ≡ extents_of_volume (tab g d) (Vhd u)
marked_extents g b d e m u f filling works table =
    let h = importing_sealed g b d m u f filling works in
    ap (λ t. extents_of_volume t (Vhd u)) table
    ∙ ap (λ o. length (extents_of o)) (row_of-with_row_same (tab g d).volumes (Vhd u) (tagged Fresh false) h.volume.row (λ q. refl) h.volume.there)
    ∙ sym (ap (λ o. length (extents_of o)) h.volume.there)

-- so in all they are no more than the volume has extents, and one
pub few_ends : {S : Type 0} (g : Ghosts S) (a s e : S) (u v : List ℕ) (r : Result ℕ ImportFault) → v ≡ u → HasCommits (extents_of_volume (tab g s) (Vhd v)) (tab g a) (tab g s) → HasCommits 1 (tab g s) (tab g e)
    → OnOk r (extents_of_volume (tab g e) (Vhd u) ≡ extents_of_volume (tab g s) (Vhd u)) → OnOk r (HasCommits (extents_of_volume (tab g e) (Vhd u) + 1) (tab g a) (tab g e))
few_ends g a s e u v (Ok size) named had one same =
    let here = subst (λ w. HasCommits (extents_of_volume (tab g s) (Vhd w)) (tab g a) (tab g s)) named had in
    let kept : extents_of_volume (tab g e) (Vhd u) ≡ extents_of_volume (tab g s) (Vhd u) = same in
    omega (arith, here, one, kept)
few_ends g a s e u v (Err fault) named had one same = tt

-- the image that came into the tree
pub new_image : {S : Type 0} (g : Ghosts S) (b d e : S) (m n : Memory) (u : List ℕ) (f : Filling) (now whole number size : ℕ) (uid : List ℕ) (image : Body) → IsFilled g b m u f → WorksOn g f.volume b d
    → uid ≡ base_uuid number → number ≡ (tab g b).sequence → image ≡ body.Vhd (new_head (g.site b).geometry f.volume now whole uid None) f.map → tab g e ≡ marked (tab g d) (Vhd u)
    → n.tree.rows ≡ with_row (row_of image (extents_of_volume (tab g d) (Vhd u))) m.tree.rows → size ≡ 512 * whole → HasNewImage (g.site b) (tab g e) u now size m n
new_image g b d e m n u f now whole number size uid image filling works uid_is number_is fields table rows_are size_is =
    let x = (g.site b).geometry in
    let whole_is : whole ≡ size / 512 = omega (arith, size_is) in
    let image_is : image ≡ body.Vhd (new_head x (Vhd u) now (size / 512) (base_uuid number) None) f.map =
    fields ∙ ap (λ v. body.Vhd (new_head x v now whole uid None) f.map) filling.volume ∙ ap₂ (λ k i. body.Vhd (new_head x (Vhd u) now k i None) f.map) whole_is uid_is in
    let extents_are = sym (marked_extents g b d e m u f filling works table) in
    record {
      number = number;
      slots = f.map;
      numbered = ap (λ (t : VolumeTable). t.sequence) table ∙ ap (λ k. min (k + 1) (2 ^ 48 - 1)) (ap (λ (t : VolumeTable). t.sequence) works.stays.table ∙ sym number_is);
      rows = rows_are ∙ ap₂ (λ i k. with_row (row_of i k) m.tree.rows) image_is extents_are;
    }

-- what was made, in the repository of the begin
pub made_in : {S : Type 0} (g : Ghosts S) (f : Filling) (s : S) (bytes : Option (List ℕ)) (sectors : ℕ) (a : S) (m : Memory) (t t' : Target) (over : Bool) → t ≡ target_from g a m → t' ≡ target_from g a m
    → HasMade t bytes (λ (puts : List Put). (over ≡ false) × HoldsPuts g f s t' puts) sectors → HasMadeIn g f s bytes sectors a m
made_in g f s bytes sectors a m t t' over was is w = record {
  puts = w.puts;
  held = subst (λ x. HoldsPuts g f s x w.puts) is w.held.1;
  below = w.below;
  made = subst (λ x. IfSome bytes (λ bs. IsMadeOf x bs sectors w.puts)) was w.made;
}

-- what the end says, by what was taken out of the disk
pub ends_at : {S : Type 0} (g : Ghosts S) (o : Begin S) (bytes : Option (List ℕ)) (sectors : ℕ) (s s' : S) (m m' : Memory) (f f' : Filling) (u v : List ℕ) (b w : Bool) (n : Memory) (e : S) (result : Result ℕ ImportFault)
    → s' ≡ s → m' ≡ m → f' ≡ f → v ≡ u → b ≡ true → w ≡ false
    → (ImportsSince g u m' o.store s' → g.told → HasMadeIn g f' s' bytes sectors o.store m' → HasImported g u bytes m' n o.store e result)
    → IsSince g o s m v b w → HasMadeIn g f s bytes sectors o.store o.memory → g.told → IsReadyStore g o.store o.memory → HasImported g o.disk bytes o.memory n o.store e result
ends_at g o bytes sectors s s' m m' f f' u v b w n e result store memory filling named begun going ends since made told ready =
    subst₂ (λ x y. HasImported g x bytes y n o.store e result) (sym named ∙ since.disk) (memory ∙ since.memory)
    (ends (since_at g o s s' m m' u v b w store memory named begun going since told ready) told
    (subst (λ y. HasMadeIn g f' s' bytes sectors o.store y) (sym since.memory ∙ sym memory)
    (subst₂ (λ x y. HasMadeIn g x y bytes sectors o.store o.memory) (sym filling) (sym store) made)))
