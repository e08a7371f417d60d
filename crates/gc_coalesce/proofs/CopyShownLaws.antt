-- A hidden parent takes sectors of its only child: every disk reads as before.
use Rattle.std.proofs.Common.{◌≡◌, ◌≢◌, ◌⊎◌, ⊎_elim, ℕ, ◌<◌, ◌≤◌, nat_lt, cond, List, [], map, Option, Some, None, refl, sym, ap, ap₂, ◌∙◌, subst}
use Rattle.std.proofs.Math.Path.{fun_ext}
use Rattle.std.proofs.lemmas.Bool.{cases_lt}
use Rattle.common_laws.specs.Lists.{numbers}
use Rattle.sm_base.specs.declared.names.Name.{Name}
use Rattle.sm_disk.specs.Sectors.{zeros}
use Rattle.sm_machine.specs.Shapes.{chain_limit}
use Rattle.sm_standing.specs.Contents.{Content, record_of}
use Rattle.sm_standing.specs.Images.{Image, ImageAnswer, here, up, held_or, image_of, answer_of, walk, image_reads, sectors_read}
use Rattle.sm_standing.specs.Standing.{standing_volume, disk_at, disks}
use Rattle.sm_standing.proofs.DiskLists.{disks_same}
use Rattle.sm_standing.proofs.ImageLaws.{moved_disk}
use Rattle.sm_standing.proofs.PlainDisks.{none_stands}
use Rattle.sm_standing.proofs.WalkLaws.{turn-past, turn-up, turn-within, walk_same}
use Rattle.sm_ready.proofs.StopLaws.{name_or_not}

-- of the parent p each sector is as it was or has the bytes that its only child v holds; no disk stands in p, and all else is as it was
pub record IsCopyLeft (c d : Content) (v p : Name) : Type 0 where
  pub table : d.table ≡ c.table
  pub recorded : (u : List ℕ) → record_of d u ≡ record_of c u
  pub others : (n : Name) → n ≢ p → image_of d n ≡ image_of c n
  pub child : Image
  pub was : Image
  pub now : Image
  pub there : image_of c v ≡ Some child
  pub before : image_of c p ≡ Some was
  pub after : image_of d p ≡ Some now
  pub size : now.size ≡ was.size
  pub parent : now.parent ≡ was.parent
  pub alike : was.size ≡ child.size
  pub own : (k : ℕ) → (now.own k ≡ was.own k) ⊎ ((bytes : List ℕ) × (child.own k ≡ Some bytes) × (now.own k ≡ Some bytes))
  pub only : (n : Name) (i : Image) → image_of c n ≡ Some i → i.parent ≡ Some p → n ≡ v
  pub stands : (u : List ℕ) (n : Name) → standing_volume c.table u ≡ Some n → n ≢ p

same_turn : (k : ℕ) (o q : Option Image) (i j : Image) → o ≡ Some i → q ≡ Some j → j.size ≡ i.size → j.parent ≡ i.parent → j.own k ≡ i.own k → answer_of k q ≡ answer_of k o
unfolding answer_of
same_turn k o q i j is now size parent own =
    ap (answer_of k) now ∙ ap₂ (λ (n : ℕ) (t : ImageAnswer). cond (nat_lt k n) t (here zeros)) size (ap₂ held_or own parent) ∙ sym (ap (answer_of k) is)

module _ (c d : Content) (v p : Name) (h : IsCopyLeft c d v p) where
  all_same : (k : ℕ) (n : Name) → answer_of k (image_of d p) ≡ answer_of k (image_of c p) → image_reads d n k ≡ image_reads c n k
  unfolding image_reads
  all_same k n same = ap (λ (f : Name → ImageAnswer). walk chain_limit f n)
      (fun_ext (λ m. ⊎_elim (λ is. subst (λ x. answer_of k (image_of d x) ≡ answer_of k (image_of c x)) (sym is) same) (λ other. ap (answer_of k) (h.others m other)) (name_or_not m p)))

  -- where the child holds the sector nobody asks the parent
  past_child : (k : ℕ) (n : Name) (bytes : List ℕ) → k < h.child.size → h.child.own k ≡ Some bytes → n ≢ p → image_reads d n k ≡ image_reads c n k
  unfolding image_reads
  past_child k n bytes below holds other =
      walk_same (λ m. m ≢ p) (λ m. answer_of k (image_of c m)) (λ m. answer_of k (image_of d m))
      (record {
        closed = λ m x apart sends is.
            let w = turn-up k (image_of c m) x sends in
            let at : m ≡ v = h.only m w.image w.there (w.parent ∙ ap Some is) in
            let answers : answer_of k (image_of c v) ≡ here bytes = turn-within k (image_of c v) h.child h.there below ∙ ap (λ o. held_or o h.child.parent) holds in
            let both : here bytes ≡ up x = sym (ap (λ y. answer_of k (image_of c y)) at ∙ answers) ∙ sends in
            (let z = both in cc);
      }) (λ m apart. ap (answer_of k) (h.others m apart)) chain_limit n other

  pub reads_copied : (k : ℕ) (n : Name) → n ≢ p → image_reads d n k ≡ image_reads c n k
  reads_copied k n other = ⊎_elim
      (λ same. all_same k n (same_turn k (image_of c p) (image_of d p) h.was h.now h.before h.after h.size h.parent same))
      (λ w. ⊎_elim (λ below. past_child k n w.0 below w.1 other)
      (λ past. all_same k n (turn-past k (image_of d p) h.now h.after (subst (λ z. z ≤ k) (sym (h.size ∙ h.alike)) past) ∙ sym (turn-past k (image_of c p) h.was h.before (subst (λ z. z ≤ k) (sym h.alike) past))))
      (cases_lt k h.child.size)) (h.own k)

  sectors_copied : (n : Name) → n ≢ p → sectors_read d n ≡ sectors_read c n
  unfolding sectors_read
  sectors_copied n other =
      ap₂ (λ (o : Option Image) (f : ℕ → List ℕ). elim o as (λ o. List (List ℕ)) [ None ↦ [] | Some i ↦ map f (numbers 0 i.size) ]) (h.others n other) (fun_ext (λ k. reads_copied k n other))

  pub disks_copied : disks d ≡ disks c
  disks_copied = disks_same c d (λ u. by u (standing_volume c.table u) refl)
    where
      by : (u : List ℕ) (x : Option Name) → standing_volume c.table u ≡ x → disk_at d u ≡ disk_at c u
      by u None is = none_stands d u (ap (λ t. standing_volume t u) h.table ∙ is) ∙ sym (none_stands c u is)
      by u (Some n) is = moved_disk c d u n n is (ap (λ t. standing_volume t u) h.table ∙ is) (h.recorded u) (sectors_copied n (h.stands u n is))
