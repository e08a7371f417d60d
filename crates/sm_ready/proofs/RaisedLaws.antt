-- A disk that grows: its image gets larger, and holds nothing past its old size. Behind its old sectors it has zeros, and every
-- other disk is the same.
use Rattle.std.proofs.Common.{◌≡◌, ◌≢◌, ◌⊎◌, inl, inr, ⊎_elim, ℕ, zero, suc, ◌+◌, ◌-◌, ◌<◌, ◌≤◌, Bool, true, false, List, [], ◌∷◌, ◌++◌, length, map, replicate, Option, Some, None, refl, sym, ap, ap₂, ◌∙◌, subst, arith}
use Rattle.std.proofs.Math.Path.{fun_ext}
use Rattle.std.proofs.lemmas.List.{length-append, length-map, length-replicate}
use Rattle.std.proofs.lemmas.Option.{none-some, same_Some}
use Rattle.std.specs.Option.{option_map}
use Rattle.std.specs.List.{slice_get}
use Rattle.std.specs.Str.{bytes_eq}
use Rattle.common_laws.specs.Lists.{In, numbers, when, ◌>>=◌}
use Rattle.common_laws.proofs.Lists.{In-map, In-map_at}
use Rattle.sm_base.specs.declared.names.Name.{Name}
use Rattle.sm_disk.specs.Sectors.{zeros}
use Rattle.vg_meta.specs.Tables.{VolumeTable}
use Rattle.sm_machine.specs.Disks.{Disk, is_disk, on_disk, filled}
use Rattle.sm_machine.specs.Runs.{Face, HasSector, face}
use Rattle.sm_machine.specs.Steps.{grown_disk}
use Rattle.sm_record.specs.declared.records.Record.{Record}
use Rattle.sm_run.specs.Between.{HadSector, IsAlready}
use Rattle.sm_standing.specs.Changes.{IsRaised}
use Rattle.sm_standing.specs.Contents.{Content, record_of}
use Rattle.sm_standing.specs.Images.{Image, image_reads, sectors_read}
use Rattle.sm_standing.specs.Standing.{disks, disk_at, disk_in, standing_volume}
use Rattle.sm_standing.proofs.DiskChanges.{disks_changed}
use Rattle.sm_standing.proofs.ImageLaws.{raised_same, raised_zeros}
use Rattle.sm_standing.proofs.PlainDisks.{map_numbers}
use Rattle.sm_ready.proofs.MadeLaws.{zeros_read}
use Rattle.sm_ready.proofs.WrittenLaws.{length-numbers, read_of}

-- ---- zeros behind a list

read_more : (f g : ℕ → List ℕ) (a n k : ℕ) → ((j : ℕ) → a ≤ j → j < a + n → g j ≡ f j) → ((j : ℕ) → a + n ≤ j → g j ≡ zeros) → map g (numbers a (n + k)) ≡ map f (numbers a n) ++ replicate k zeros
unfolding numbers
read_more f g a zero k same past = ap (λ n. map g (numbers a n)) (let e : zero + k ≡ k = omega arith in e) ∙ map_numbers g (λ j. zeros) a k (λ j above below. past j (omega (arith, above))) ∙ zeros_read a k
read_more f g a (suc n) k same past =
    ap (λ j. map g (numbers a j)) (let e : suc n + k ≡ suc (n + k) = omega arith in e)
    ∙ ap₂ (λ x xs. x ∷ xs) (same a (omega arith) (omega arith))
    (read_more f g (a + 1) n k (λ j above below. same j (omega (arith, above)) (omega (arith, below))) (λ j above. past j (omega (arith, above))))

zero_at : (n k : ℕ) (z : List ℕ) → k < n → slice_get (replicate n z) k ≡ Some z
zero_at zero k z below = absurd (omega (arith, below))
zero_at (suc n) zero z below = refl
zero_at (suc n) (suc k) z below = zero_at n k z (omega (arith, below))

at_zero : (n k : ℕ) (z b : List ℕ) → slice_get (replicate n z) k ≡ Some b → (k < n) × (b ≡ z)
at_zero zero k z b is = absurd (none-some b is)
at_zero (suc n) zero z b is = (omega arith, sym (same_Some z b is))
at_zero (suc n) (suc k) z b is = let w = at_zero n k z b is in (omega (arith, w.0), w.1)

-- a sector is an old one, or one of the zeros
old_or_zero : (xs : List (List ℕ)) (n k : ℕ) (z b : List ℕ) → slice_get (xs ++ replicate n z) k ≡ Some b → (slice_get xs k ≡ Some b) ⊎ ((length xs ≤ k) × (k < length xs + n) × (b ≡ z))
old_or_zero [] n k z b is = let w = at_zero n k z b is in inr (omega arith, omega (arith, w.0), w.1)
old_or_zero (x ∷ xs) n zero z b is = inl is
old_or_zero (x ∷ xs) n (suc k) z b is = ⊎_elim (λ old. inl old) (λ new. inr (omega (arith, new.0), omega (arith, new.1), new.2)) (old_or_zero xs n k z b is)

zero_behind : (xs : List (List ℕ)) (n k : ℕ) (z : List ℕ) → length xs ≤ k → k < length xs + n → slice_get (xs ++ replicate n z) k ≡ Some z
zero_behind [] n k z past below = zero_at n k z (omega (arith, below))
zero_behind (x ∷ xs) n zero z past below = absurd (omega (arith, past))
zero_behind (x ∷ xs) n (suc k) z past below = zero_behind xs n k z (omega (arith, past)) (omega (arith, below))

-- ---- the disks, where one image grew

module _ (c d : Content) (x : Name) (i j : Image) (h : IsRaised c d x i j) (table : d.table ≡ c.table) (recorded : (v : List ℕ) → record_of d v ≡ record_of c v) where
  sectors_other : (m : Name) → m ≢ x → sectors_read d m ≡ sectors_read c m
  unfolding sectors_read
  sectors_other m other =
      ap₂ (λ (o : Option Image) (f : ℕ → List ℕ). elim o as (λ o. List (List ℕ)) [ None ↦ [] | Some i ↦ map f (numbers 0 i.size) ]) (h.others m other) (fun_ext (raised_same c d x i j h m))

  sectors_own : sectors_read d x ≡ sectors_read c x ++ filled (j.size - length (sectors_read c x)) 0
  unfolding zeros
  sectors_own =
      let long : length (sectors_read c x) ≡ i.size = ap length (read_of c x i h.before) ∙ length-map (numbers 0 i.size) (image_reads c x) ∙ length-numbers 0 i.size in
      read_of d x j h.after
      ∙ ap (λ k. map (image_reads d x) (numbers 0 k)) (let e : j.size ≡ i.size + (j.size - i.size) = omega (arith, h.larger) in e)
      ∙ read_more (image_reads c x) (image_reads d x) 0 i.size (j.size - i.size) (λ k above below. raised_same c d x i j h x k) (λ k past. raised_zeros c d x i j h k (omega (arith, past)))
      ∙ ap₂ (λ (xs : List (List ℕ)) (k : ℕ). xs ++ filled (j.size - k) 0) (sym (read_of c x i h.before)) (sym long)

  module _ (u : List ℕ) (stands : standing_volume c.table u ≡ Some x) (owner : (v : List ℕ) → standing_volume c.table v ≡ Some x → v ≡ u) where
    shown : (e : Content) (v : List ℕ) → e.table ≡ c.table → ((w : List ℕ) → record_of e w ≡ record_of c w) → disk_at e v ≡ (standing_volume c.table v >>= (λ m. record_of c v >>= (λ r. Some (disk_in e v r m))))
    unfolding disk_at
    shown e v table recorded =
        ap (λ (t : VolumeTable). standing_volume t v >>= (λ m. record_of e v >>= (λ r. Some (disk_in e v r m)))) table
        ∙ ap (λ (o : Option Record). standing_volume c.table v >>= (λ m. o >>= (λ r. Some (disk_in e v r m)))) (recorded v)

    own : disk_at d u ≡ option_map (grown_disk j.size) (disk_at c u)
    own = shown d u table recorded ∙ ap (λ (y : Option Name). y >>= (λ m. record_of c u >>= (λ r. Some (disk_in d u r m)))) stands ∙ by (record_of c u)
        ∙ sym (ap (option_map (grown_disk j.size)) (shown c u refl (λ w. refl) ∙ ap (λ (y : Option Name). y >>= (λ m. record_of c u >>= (λ r. Some (disk_in c u r m)))) stands))
      where
        by : (o : Option Record) → (o >>= (λ r. Some (disk_in d u r x))) ≡ option_map (grown_disk j.size) (o >>= (λ r. Some (disk_in c u r x)))
        by None = refl
        by (Some r) = ap (λ (ss : List (List ℕ)). let e : Disk = record { uuid = u; label = r.label; origin = r.origin; read_only = r.read_only; sectors = ss } in Some e) sectors_own

    other : (v : List ℕ) → v ≢ u → disk_at d v ≡ disk_at c v
    other v apart = shown d v table recorded ∙ by (standing_volume c.table v) refl ∙ sym (shown c v refl (λ w. refl))
      where
        of : (m : Name) (o : Option Record) → m ≢ x → (o >>= (λ r. Some (disk_in d v r m))) ≡ (o >>= (λ r. Some (disk_in c v r m)))
        of m None away = refl
        of m (Some r) away = ap (λ (ss : List (List ℕ)). let e : Disk = record { uuid = v; label = r.label; origin = r.origin; read_only = r.read_only; sectors = ss } in Some e) (sectors_other m away)

        by : (y : Option Name) → standing_volume c.table v ≡ y → (y >>= (λ m. record_of c v >>= (λ r. Some (disk_in d v r m)))) ≡ (y >>= (λ m. record_of c v >>= (λ r. Some (disk_in c v r m))))
        by None e = refl
        by (Some m) e = of m (record_of c v) (λ same. apart (owner v (e ∙ ap Some same)))

    pub disks_raised : disks d ≡ on_disk u (grown_disk j.size) (disks c)
    disks_raised = disks_changed c d u (grown_disk j.size) (λ e. refl) own other

-- ---- of disks that have the faces of those from before, and sectors that these might have had

abbrev grown_face : ℕ → Face → Face
grown_face size f = record f { size = f.size + (size - f.size) }

face_grown : (size : ℕ) (u : List ℕ) (e : Disk) → face (when (is_disk u e) (grown_disk size) e) ≡ when (bytes_eq (face e).uuid u) (grown_face size) (face e)
face_grown size u e = by (is_disk u e)
  where
    by : (b : Bool) → face (when b (grown_disk size) e) ≡ when b (grown_face size) (face e)
    by true = ap (λ (k : ℕ). let f : Face = record (face e) { size = k } in f) (length-append e.sectors (filled (size - length e.sectors) 0) ∙ ap (λ k. length e.sectors + k) (length-replicate (size - length e.sectors) (replicate 512 0)))
    by false = refl

faces_grown : (size : ℕ) (u : List ℕ) (es : List Disk) → map face (on_disk u (grown_disk size) es) ≡ map (λ (f : Face). when (bytes_eq f.uuid u) (grown_face size) f) (map face es)
faces_grown size u [] = refl
faces_grown size u (e ∷ es) = ap₂ (λ f fs. f ∷ fs) (face_grown size u e) (faces_grown size u es)

-- where such disks get larger, they are those from after it, but sectors that they might have had before
pub raised_already : (size : ℕ) (u : List ℕ) (was might : List Disk) (before : List Disk → Type 0) → map face might ≡ map face was → before might → IsAlready before (on_disk u (grown_disk size) was) (on_disk u (grown_disk size) might)
raised_already size u was might before faces shown = record {
  faces = faces_grown size u might ∙ ap (map (λ (f : Face). when (bytes_eq f.uuid u) (grown_face size) f)) faces ∙ sym (faces_grown size u was);
  sectors = λ v k bytes held. (let w = In-map (λ y. when (is_disk u y) (grown_disk size) y) might held.disk held.is_there in
      by v k bytes w.0 w.1 (is_disk u w.0) refl (ap (λ (y : Disk). y.uuid) (sym w.2) ∙ held.is_named) (ap (λ (y : Disk). slice_get y.sectors k) (sym w.2) ∙ held.holds));
}
  where
    by : (v : List ℕ) (k : ℕ) (bytes : List ℕ) (y : Disk) → In y might → (b : Bool) → is_disk u y ≡ b → (when b (grown_disk size) y).uuid ≡ v → slice_get ((when b (grown_disk size) y).sectors) k ≡ Some bytes
        → HadSector before v k bytes ⊎ HasSector (on_disk u (grown_disk size) was) v k bytes
    by v k bytes y i false is named holds = inl (might, shown, record { disk = y; is_there = i; is_named = named; holds = holds })
    by v k bytes y i true is named holds = ⊎_elim
        (λ old. inl (might, shown, record { disk = y; is_there = i; is_named = named; holds = old }))
        (λ new. inr (
        let w = In-map face was (face y) (subst (λ (fs : List Face). In (face y) fs) faces (In-map_at face might y i)) in
        let long : length y.sectors ≡ length w.0.sectors = ap (λ (f : Face). f.size) w.2 in
        let mine : is_disk u w.0 ≡ true = ap (λ (f : Face). bytes_eq f.uuid u) (sym w.2) ∙ is in
        record {
          disk = when (is_disk u w.0) (grown_disk size) w.0;
          is_there = In-map_at (λ y. when (is_disk u y) (grown_disk size) y) was w.0 w.1;
          is_named = ap (λ b. (when b (grown_disk size) w.0).uuid) mine ∙ ap (λ (f : Face). f.uuid) (sym w.2) ∙ named;
          holds = ap (λ b. slice_get ((when b (grown_disk size) w.0).sectors) k) mine
              ∙ zero_behind w.0.sectors (size - length w.0.sectors) k (replicate 512 0) (omega (arith, new.0, long)) (subst (λ n. k < n + (size - n)) long new.1)
              ∙ ap Some (sym new.2);
        }
        ))
        (old_or_zero y.sectors (size - length y.sectors) k (replicate 512 0) bytes holds)
