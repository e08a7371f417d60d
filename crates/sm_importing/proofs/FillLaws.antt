-- The image of a disk that is imported goes on to be filled, and holds what it held, while its volume grows and is written to.
use Rattle.std.proofs.Common.{◌≡◌, ⊎_elim, ℕ, ◌+◌, ◌-◌, ◌<◌, ◌≤◌, ◌++◌, List, [], length, refl, sym, ap, ap₂, ◌∙◌, subst, subst₂, arith}
use Rattle.std.proofs.lemmas.Bool.{cases_lt}
use Rattle.std.proofs.lemmas.List.{append-nil, length-append}
use Rattle.sm_base.specs.declared.names.Name.{Name}
use Rattle.sm_base.specs.declared.names.Name.TheVariants.{Vhd}
use Rattle.sm_disk.specs.Held.{Keeps, reads}
use Rattle.vg_meta.specs.Changes.{grown, without}
use Rattle.vg_meta.specs.Tables.{Row, VolumeTable, extents_in, extents_of, free as free_of, rows}
use Rattle.vg_meta.proofs.RowLaws.{row_of-with_row_same}
use Rattle.vg_volumes.specs.Sites.{Site}
use Rattle.vg_volumes.specs.Stored.{WorksOn, held_in, stored}
use Rattle.vg_volumes.specs.Volumes.{KeepsAt, span, volume}
use Rattle.vg_volumes.specs.declared.stores.Store.{Ghosts}
use Rattle.vg_volumes.proofs.VolumeLaws.{Keeps-volume, KeepsAt-keeps, KeepsAt-then}
use Rattle.vhd_volumes.specs.Truth.{HasRoomFor, HasRoomIn}
use Rattle.vhd_volumes.proofs.SteadyLaws.{KeepsAt-longer}
use Rattle.vhd_filling.specs.Filled.{Fills, HoldsSame, held_now, slots_taken}
use Rattle.vhd_filling.specs.declared.fillings.Filling.{Filling}
use Rattle.vhd_filling.proofs.FilledLaws.{StaysFilled}
use Rattle.vhd_filling.proofs.GrownLaws.{kept_filled}
use Rattle.sm_ready.specs.Frames.{HasCommits}
use Rattle.sm_ready.specs.declared.memory.Memory.{Memory}
use Rattle.sm_ready.proofs.ChainLaws.{tab}
use Rattle.sm_importing.specs.Imports.{GrowsEachCommit, IsGrown, IsImporting, SameBeside, extents_of_volume, thin_in}
use Rattle.sm_importing.specs.Disks.{IsFilled, IsFilledTo, room_for}
use Rattle.sm_importing.proofs.ImportLaws.{importing_works}
use Rattle.sm_importing.proofs.RoomLaws.{least_enough, thin_more, thin_room}

-- without a commit a volume gets no extents
pub grows_same : (n : Name) {t next : VolumeTable} → next ≡ t → GrowsEachCommit n t next
grows_same n is =
    let extents = ap (λ t. extents_of_volume t n) is in
    let number = ap (λ (t : VolumeTable). t.sequence) is in
    record { longer = omega (arith, extents); few = omega (arith, number) }

-- the extents that no volume beside this one has stay
pub room_same : {S : Type 0} (g : Ghosts S) (a b : S) (u : List ℕ) → g.site b ≡ g.site a → tab g b ≡ tab g a → room_for g b u ≡ room_for g a u
room_same g a b u site table = ap₂ (λ (s : Site) (t : VolumeTable). s.count - length (extents_in (without (Vhd u) t.volumes))) site table

pub room_kept : {S : Type 0} (g : Ghosts S) (a b : S) (u : List ℕ) → g.site b ≡ g.site a → SameBeside (Vhd u) (tab g a) (tab g b) → room_for g b u ≡ room_for g a u
room_kept g a b u site same = ap₂ (λ (s : Site) (rs : List Row). s.count - length (extents_in rs)) site same

module _ {S : Type 0} {g : Ghosts S} where
  -- ---- its volume gets more extents behind its end, or none

  module _ (f : Filling) (a b : S) (more : List ℕ) (site : g.site b ≡ g.site a) (now : extents_of (rows (tab g b) f.volume) ≡ extents_of (rows (tab g a) f.volume) ++ more)
      (kept : g.told → Keeps (g.area a) (g.area b)) (room : HasRoomIn (stored g a) f.volume (slots_taken f)) (fills : Fills g f a) where
    had : List ℕ
    had = extents_of (rows (tab g a) f.volume)

    keeps : g.told → KeepsAt (λ p. p < span (g.site a).geometry.extent had) (held_in (stored g a) f.volume) (held_in (stored g b) f.volume)
    unfolding had
    keeps told =
        let x = (g.site a).geometry.extent in
        let there : KeepsAt (λ p. p < span x had) (volume x had (g.area a)) (volume x (had ++ more) (g.area b)) =
        KeepsAt-then (KeepsAt-keeps _ (Keeps-volume x had (kept told))) (KeepsAt-longer x had more (g.area b)) in
        subst₂ (λ (s : Site) (es : List ℕ). KeepsAt (λ p. p < span x had) (held_in (stored g a) f.volume) (volume s.geometry.extent es (g.area b))) (sym site) (sym now) there

    room_here : HasRoomFor f.geometry (slots_taken f) (span (g.site a).geometry.extent had)
    unfolding had
    room_here = subst (λ z. HasRoomFor z (slots_taken f) (span (g.site a).geometry.extent had)) fills.sizes room

    stays : (told : g.told) → StaysFilled f f (reads (held_in (stored g a) f.volume)) (reads (held_in (stored g b) f.volume))
    stays told = kept_filled f fills.sound _ _ (span (g.site a).geometry.extent had) room_here (λ p below. (keeps told).reads p below) (fills.marked told)

    pub fills_longer : Fills g f b
    fills_longer = record { sound = fills.sound; sizes = ap (λ (s : Site). s.geometry) site ∙ fills.sizes; marked = λ told. (stays told).bitmaps }

    pub holds_longer : g.told → HoldsSame (held_now g f a) (held_now g f b)
    holds_longer told = (stays told).same

  -- ---- room

  -- the slots of an image have room in its volume
  pub slots_room : {s : S} {m : Memory} {u : List ℕ} {f : Filling} {slots : ℕ} (k : ℕ) → IsFilledTo g s m u f slots → k ≤ slots → HasRoomIn (stored g s) f.volume k
  slots_room {s} {m} {u} {f} {slots} k h few =
      subst (λ n. HasRoomIn (stored g s) n k) (sym h.volume)
      (thin_room (g.site s).geometry k slots (extents_of_volume (tab g s) (Vhd u)) few (let e = h.extents in omega (arith, e)))

  -- ---- it is written to, or only read

  module _ {a b : S} {m : Memory} {u : List ℕ} {f : Filling} {slots : ℕ} (h : IsFilledTo g a m u f slots) where
    pub extents_same : g.site b ≡ g.site a → tab g b ≡ tab g a → extents_of_volume (tab g b) (Vhd u) ≡ thin_in (g.site b) slots
    extents_same site table = ap (λ t. extents_of_volume t (Vhd u)) table ∙ h.extents ∙ ap (λ (s : Site). thin_in s slots) (sym site)

    pub filled_works : (n : Filling) → WorksOn g (Vhd u) a b → Fills g n b → n.volume ≡ f.volume → IsFilledTo g b m u n slots
    filled_works n works fills same = record {
      importing = importing_works works h.importing;
      fills = fills;
      volume = same ∙ h.volume;
      extents = extents_same works.stays.site works.stays.table;
    }

  module _ {a b : S} {m : Memory} {u : List ℕ} {f : Filling} (h : IsFilled g a m u f) (site : g.site b ≡ g.site a) (kept : g.told → Keeps (g.area a) (g.area b)) (importing : IsImporting g b m u) where
    room_now : HasRoomIn (stored g a) f.volume (slots_taken f)
    room_now = slots_room (slots_taken f) h (omega arith)

    pub filled_same : tab g b ≡ tab g a → IsFilled g b m u f
    filled_same table = record {
      importing = importing;
      fills = fills_longer f a b [] site (ap (λ t. extents_of (rows t f.volume)) table ∙ sym (append-nil (extents_of (rows (tab g a) f.volume)))) kept room_now h.fills;
      volume = h.volume;
      extents = extents_same h site table;
    }

    -- ---- it grows

    module _ (w : IsGrown (g.site a).count (thin_in (g.site a) (slots_taken f + 1) - extents_of_volume (tab g a) (Vhd u)) (tab g a) (Vhd u) (tab g b))
        (lacks : extents_of_volume (tab g a) (Vhd u) < thin_in (g.site a) (slots_taken f + 1)) where
      longer : extents_of (rows (tab g b) (Vhd u)) ≡ extents_of (rows (tab g a) (Vhd u)) ++ w.extents
      longer =
          let v = h.importing.volume in
          ap (λ t. extents_of (rows t (Vhd u))) w.made ∙ ap extents_of (row_of-with_row_same (tab g a).volumes (Vhd u) (grown w.extents) v.row (λ s. refl) v.there)
          ∙ ap (λ o. extents_of o ++ w.extents) (sym v.there)

      longer_here : extents_of (rows (tab g b) f.volume) ≡ extents_of (rows (tab g a) f.volume) ++ w.extents
      longer_here = subst (λ n. extents_of (rows (tab g b) n) ≡ extents_of (rows (tab g a) n) ++ w.extents) (sym h.volume) longer

      many : extents_of_volume (tab g b) (Vhd u) ≡ thin_in (g.site b) (slots_taken f + 1)
      many =
          omega (arith, ap length longer, length-append (extents_of (rows (tab g a) (Vhd u))) w.extents, w.least.many, lacks) ∙ ap (λ (s : Site). thin_in s (slots_taken f + 1)) (sym site)

      pub filled_grown : IsFilledTo g b m u f (slots_taken f + 1)
      filled_grown = record { importing = importing; fills = fills_longer f a b w.extents site longer_here kept room_now h.fills; volume = h.volume; extents = many }

      pub holds_grown : g.told → HoldsSame (held_now g f a) (held_now g f b)
      holds_grown = holds_longer f a b w.extents site longer_here kept room_now h.fills

  -- the volume has the extents of an image with one slot more
  pub filled_idle : {a : S} {m : Memory} {u : List ℕ} {f : Filling} → IsFilled g a m u f → thin_in (g.site a) (slots_taken f + 1) ≤ extents_of_volume (tab g a) (Vhd u) → IsFilledTo g a m u f (slots_taken f + 1)
  filled_idle {a} {m} {u} {f} h enough = record {
    importing = h.importing;
    fills = h.fills;
    volume = h.volume;
    extents = let more = thin_more (g.site a).geometry (slots_taken f) (slots_taken f + 1) (omega arith) in let e = h.extents in omega (arith, e, more, enough);
  }

  -- what a growth left
  module _ {a b : S} {m : Memory} {u : List ℕ} {f : Filling} (h : IsFilled g a m u f) (site : g.site b ≡ g.site a) (kept : g.told → Keeps (g.area a) (g.area b)) (importing : IsImporting g b m u)
      (k : ℕ) (slots : k ≡ slots_taken f) {Fine : Type 0} (idle : thin_in (g.site a) (k + 1) ≤ extents_of_volume (tab g a) (Vhd u) → Fine × (b ≡ a))
      (w : extents_of_volume (tab g a) (Vhd u) < thin_in (g.site a) (k + 1) → IsGrown (g.site a).count (thin_in (g.site a) (k + 1) - extents_of_volume (tab g a) (Vhd u)) (tab g a) (Vhd u) (tab g b)) where
    abbrev wanted : ℕ
    wanted = thin_in (g.site a) (slots_taken f + 1)

    abbrev own : ℕ
    own = extents_of_volume (tab g a) (Vhd u)

    same : wanted ≤ own → b ≡ a
    same enough = (subst (λ n. thin_in (g.site a) (n + 1) ≤ own → Fine × (b ≡ a)) slots idle enough).1

    is_grown : own < wanted → IsGrown (g.site a).count (wanted - own) (tab g a) (Vhd u) (tab g b)
    is_grown = subst (λ n. own < thin_in (g.site a) (n + 1) → IsGrown (g.site a).count (thin_in (g.site a) (n + 1) - own) (tab g a) (Vhd u) (tab g b)) slots w

    pub filled_more : IsFilledTo g b m u f (slots_taken f + 1)
    filled_more = ⊎_elim
        (λ lacks. filled_grown h site kept importing (is_grown lacks) lacks)
        (λ enough. subst (λ s. IsFilledTo g s m u f (slots_taken f + 1)) (sym (same enough)) (filled_idle h enough))
        (cases_lt own wanted)

    -- where the volume got no extents, nothing was done
    pub still_more : extents_of_volume (tab g b) (Vhd u) ≡ own → b ≡ a
    still_more had =
        let now = filled_more.extents in
        let sites = ap (λ (x : Site). thin_in x (slots_taken f + 1)) site in
        same (omega (arith, had, now, sites))

    -- else its one commit brought one at least
    pub grows_more : HasCommits 1 (tab g a) (tab g b) → GrowsEachCommit (Vhd u) (tab g a) (tab g b)
    grows_more one =
        let now = filled_more.extents in
        let sites = ap (λ (x : Site). thin_in x (slots_taken f + 1)) site in
        ⊎_elim
        (λ (lacks : own < wanted). record { longer = omega (arith, now, sites, lacks); few = omega (arith, now, sites, lacks, one) })
        (λ (enough : wanted ≤ own). grows_same (Vhd u) (ap (λ s. tab g s) (same enough)))
        (cases_lt own wanted)

    pub holds_more : g.told → HoldsSame (held_now g f a) (held_now g f b)
    holds_more told = ⊎_elim
        (λ lacks. holds_grown h site kept importing (is_grown lacks) lacks told)
        (λ enough. subst (λ s. HoldsSame (held_now g f a) (held_now g f s)) (sym (same enough)) (λ j. refl))
        (cases_lt own wanted)

    pub enough_more : wanted - thin_in (g.site a) (slots_taken f) ≤ length (free_of (g.site a).count (tab g a))
    enough_more =
        let e = h.extents in
        ⊎_elim
        (λ lacks. let n = least_enough (g.site a).count _ (tab g a) (is_grown lacks).extents (is_grown lacks).least in omega (arith, n, e))
        (λ enough. omega (arith, enough, e))
        (cases_lt own wanted)
