-- A child is linked past an image to that image's parent, which is as large and holds alike whatever the image holds: the disks are
-- the same. Where it is not linked yet, they are so too.
use Rattle.std.proofs.Common.{◌≡◌, ◌≢◌, ◌⊎◌, inl, inr, ⊎_elim, ℕ, ◌<◌, ◌≤◌, List, [], map, Option, Some, None, refl, sym, ap, ap₂, ◌∙◌, arith}
use Rattle.std.proofs.Math.Path.{fun_ext}
use Rattle.std.proofs.lemmas.Bool.{cases_lt}
use Rattle.common_laws.specs.Lists.{◌>>=◌, numbers}
use Rattle.sm_base.specs.declared.names.Name.{Name}
use Rattle.vg_meta.specs.Tables.{VolumeTable}
use Rattle.sm_machine.specs.Disks.{Disk}
use Rattle.sm_record.specs.declared.records.Record.{Record}
use Rattle.sm_standing.specs.Answering.{ImageAnswers, Reads}
use Rattle.sm_standing.specs.Changes.{IsCopied, IsLinkedUp, IsShortChain, SameImagesBut, parent_of, turns_of}
use Rattle.sm_standing.specs.Contents.{Content, record_of}
use Rattle.sm_standing.specs.Images.{Image, answer_of, here, held_or, image_of, image_reads, sectors_read, up, walk}
use Rattle.sm_standing.specs.Outlines.{link_of, outline}
use Rattle.sm_standing.specs.Standing.{disk_at, disk_in, disks, standing_volume}
use Rattle.sm_standing.proofs.DiskLists.{disks_same}
use Rattle.sm_standing.proofs.ImageLaws.{parent-is}
use Rattle.sm_standing.proofs.TurnLaws.{reads_here, relinked}
use Rattle.sm_standing.proofs.WalkLaws.{depth_linked, reads_short, short_reads, turn-past, turn-within}
use Rattle.sm_ready.proofs.StopLaws.{name_or_not}

-- the image x of c, whose parent is v, has that parent in d too, or v's parent p; it is as large and holds the same, all other images
-- are the same, and p holds alike what v holds
pub record IsLinkedPast (c d : Content) (x v p : Name) (i j vi pi : Image) : Type 0 where
  pub before : image_of c x ≡ Some i
  pub after : image_of d x ≡ Some j
  pub size : j.size ≡ i.size
  pub was : i.parent ≡ Some v
  pub now : (j.parent ≡ Some v) ⊎ (j.parent ≡ Some p)
  pub own : (k : ℕ) → j.own k ≡ i.own k
  pub others : SameImagesBut c d x
  pub apart : x ≢ v
  pub below : x ≢ p
  pub copied : IsCopied c v p vi pi

module _ (c d : Content) (x v p : Name) (i j vi pi : Image) (h : IsLinkedPast c d x v p i j vi pi) (short : (n : Name) → IsShortChain c n) where
  -- no chain gets longer
  linked_up : IsLinkedUp (outline c) (outline d)
  linked_up n = ⊎_elim
      (λ same. ⊎_elim
      (λ old. inl (ap (parent_of d) same ∙ parent-is d x v j h.after old ∙ sym (ap (parent_of c) same ∙ parent-is c x v i h.before h.was)))
      (λ new. inr (v, p, ap (parent_of c) same ∙ parent-is c x v i h.before h.was, parent-is c v p vi h.copied.image h.copied.parent, ap (parent_of d) same ∙ parent-is d x p j h.after new)) h.now)
      (λ other. inl (ap (λ o. link_of o >>= (λ l. l.parent)) (h.others n other))) (name_or_not n x)

  short_now : (n : Name) → IsShortChain d n
  short_now n = let more = depth_linked (outline c) (outline d) linked_up 31 n in let was = short n in omega (arith, more, was)

  -- ---- at one sector

  module _ (s : ℕ) where
    abbrev f : ImageAnswers
    f = turns_of c s

    abbrev g : ImageAnswers
    g = turns_of d s

    same_but : (n : Name) → n ≢ x → g n ≡ f n
    same_but n other = ap (answer_of s) (h.others n other)

    -- where the child itself answers alike, all is read alike
    read_same : g x ≡ f x → (n : Name) → image_reads d n s ≡ image_reads c n s
    unfolding image_reads
    read_same same n = ap (λ t. walk 30 t n) (fun_ext turn)
      where
        turn : (m : Name) → g m ≡ f m
        turn m = ⊎_elim (λ is. ap g is ∙ same ∙ sym (ap f is)) (same_but m) (name_or_not m x)

    -- the parent answers what the image answers
    answers : (bytes : List ℕ) → f v ≡ here bytes → Reads g p bytes
    answers bytes is = reads_here g p bytes (same_but p (λ e. h.below (sym e)) ∙ by (cases_lt s vi.size) (vi.own s) refl)
      where
        by : (s < vi.size) ⊎ (vi.size ≤ s) → (o : Option (List ℕ)) → vi.own s ≡ o → f p ≡ here bytes
        by (inl below) (Some held) own =
            let at : f v ≡ here held = turn-within s (image_of c v) vi h.copied.image below ∙ ap (λ o. held_or o vi.parent) own in
            turn-within s (image_of c p) pi h.copied.below (omega (arith, below, h.copied.size)) ∙ ap (λ o. held_or o pi.parent) (h.copied.held s held own) ∙ sym at ∙ is
        by (inl below) None own =
            let at : f v ≡ up p = turn-within s (image_of c v) vi h.copied.image below ∙ ap₂ held_or own h.copied.parent in
            absurd (let e = sym at ∙ is in cc)
        by (inr past) o own =
            turn-past s (image_of c p) pi h.copied.below (omega (arith, past, h.copied.size)) ∙ sym (turn-past s (image_of c v) vi h.copied.image past) ∙ is

    sends : (q : Name) → f v ≡ up q → q ≡ p
    sends q is = by (cases_lt s vi.size) (vi.own s) refl
      where
        by : (s < vi.size) ⊎ (vi.size ≤ s) → (o : Option (List ℕ)) → vi.own s ≡ o → q ≡ p
        by (inl below) (Some held) own = absurd (let e = sym (turn-within s (image_of c v) vi h.copied.image below ∙ ap (λ o. held_or o vi.parent) own) ∙ is in cc)
        by (inl below) None own = (let e = sym is ∙ turn-within s (image_of c v) vi h.copied.image below ∙ ap₂ held_or own h.copied.parent in cc)
        by (inr past) o own = absurd (let e = sym (turn-past s (image_of c v) vi h.copied.image past) ∙ is in cc)

    read_past : f x ≡ up v → g x ≡ up p → (n : Name) → image_reads d n s ≡ image_reads c n s
    read_past sent now n = sym (reads_short d n s (image_reads c n s) (short_now n)
        (relinked (turns_of c s) (turns_of d s) x v p sent now h.apart same_but answers sends n (image_reads c n s) (short_reads c n s (short n))))

    pub read_alike : (n : Name) → image_reads d n s ≡ image_reads c n s
    read_alike n = by (cases_lt s i.size) (i.own s) refl h.now
      where
        by : (s < i.size) ⊎ (i.size ≤ s) → (o : Option (List ℕ)) → i.own s ≡ o → (j.parent ≡ Some v) ⊎ (j.parent ≡ Some p) → image_reads d n s ≡ image_reads c n s
        by (inr past) o own now = read_same (turn-past s (image_of d x) j h.after (omega (arith, past, h.size)) ∙ sym (turn-past s (image_of c x) i h.before past)) n
        by (inl below) (Some held) own now = read_same
            (turn-within s (image_of d x) j h.after (omega (arith, below, h.size)) ∙ ap (λ o. held_or o j.parent) (h.own s ∙ own)
            ∙ sym (turn-within s (image_of c x) i h.before below ∙ ap (λ o. held_or o i.parent) own)) n
        by (inl below) None own (inl old) = read_same
            (turn-within s (image_of d x) j h.after (omega (arith, below, h.size)) ∙ ap₂ held_or (h.own s ∙ own) old
            ∙ sym (turn-within s (image_of c x) i h.before below ∙ ap₂ held_or own h.was)) n
        by (inl below) None own (inr new) = read_past (turn-within s (image_of c x) i h.before below ∙ ap₂ held_or own h.was)
            (turn-within s (image_of d x) j h.after (omega (arith, below, h.size)) ∙ ap₂ held_or (h.own s ∙ own) new) n

  -- ---- all sectors

  size_alike : (n : Name) → (image_of d n ≡ image_of c n) ⊎ ((n ≡ x) × (image_of d n ≡ Some j) × (image_of c n ≡ Some i))
  size_alike n = ⊎_elim (λ same. inr (same, ap (image_of d) same ∙ h.after, ap (image_of c) same ∙ h.before)) (λ other. inl (h.others n other)) (name_or_not n x)

  sectors_alike : (n : Name) → sectors_read d n ≡ sectors_read c n
  unfolding sectors_read
  sectors_alike n = ⊎_elim
      (λ same. ap₂ (λ (o : Option Image) r. reads_by o r) same (fun_ext (λ k. read_alike k n)))
      (λ w. ap (λ (o : Option Image). reads_by o (image_reads d n)) w.1 ∙ ap₂ (λ k r. map r (numbers 0 k)) h.size (fun_ext (λ k. read_alike k n))
      ∙ sym (ap (λ (o : Option Image). reads_by o (image_reads c n)) w.2))
      (size_alike n)
    where
      reads_by : Option Image → (ℕ → List ℕ) → List (List ℕ)
      reads_by o r = elim o as (λ o. List (List ℕ)) [ None ↦ [] | Some z ↦ map r (numbers 0 z.size) ]

  -- the disks are the same
  pub disks_linked : d.table ≡ c.table → ((u : List ℕ) → record_of d u ≡ record_of c u) → disks d ≡ disks c
  unfolding disk_at
  disks_linked table recorded = disks_same c d (λ u.
      ap₂ (λ (t : VolumeTable) (y : Option Record). standing_volume t u >>= (λ n. y >>= (λ r. Some (disk_in d u r n)))) table (recorded u)
      ∙ ap (λ (e : Name → List (List ℕ)). standing_volume c.table u >>= (λ n. record_of c u >>= (λ r. Some (made u r (e n))))) (fun_ext sectors_alike))
    where
      made : List ℕ → Record → List (List ℕ) → Disk
      made u r ss = record { uuid = u; label = r.label; origin = r.origin; read_only = r.read_only; sectors = ss }
