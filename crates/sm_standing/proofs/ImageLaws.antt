-- A change of one image, and the disks.
use Rattle.std.proofs.Common.{◌≡◌, ◌≢◌, ◌⊎◌, inl, inr, ℕ, ◌<◌, ◌≤◌, ◌&&◌, not, Bool, true, false, cond, List, [], map, Option, Some, None, refl, sym, ap, ap₂, ◌∙◌, subst, arith}
use Rattle.std.proofs.Math.Path.{fun_ext}
use Rattle.std.proofs.lemmas.Bool.{cases_lt}
use Rattle.common_laws.proofs.Options.{bind-some}
use Rattle.sm_base.specs.declared.names.Name.{Name}
use Rattle.sm_base.specs.declared.names.Name.TheVariants.{Vhd, Raw, Old}
use Rattle.sm_disk.specs.Sectors.{zeros}
use Rattle.sm_record.specs.declared.records.Record.{Record}
use Rattle.vg_meta.specs.Tables.{Row, VolumeTable, name_eq}
use Rattle.vg_meta.proofs.NameLaws.{name_eq-true, name_eq-false}
use Rattle.sm_machine.specs.Disks.{Disk}
use Rattle.common_laws.specs.Lists.{In, numbers, ◌>>=◌}
use Rattle.sm_machine.specs.Shapes.{same_image, chain_limit}
use Rattle.sm_standing.specs.Changes.{turns_of, parent_of, IsShortChain, IsCopied, IsRaised, IsMoved, IsRemoved, SameImagesBut}
use Rattle.sm_standing.specs.Checks.{children, parent_is}
use Rattle.sm_standing.specs.Outlines.{link_of, outline}
use Rattle.sm_standing.specs.Contents.{Content, row, record_of}
use Rattle.sm_standing.specs.Entries.{is_visible, of_row, folding, making, head}
use Rattle.sm_standing.specs.Images.{Image, here, up, held_or, answer_of, walk, image_reads, image_of, sectors_read, raw_image, vhd_image}
use Rattle.sm_standing.specs.Standing.{standing_volume, stands_plainly, stands_forked, stands_folded, under, disks, disk_at, disk_in}
use Rattle.sm_standing.proofs.DiskLists.{disks_same}
use Rattle.sm_standing.proofs.DisksShown.{row_of-In}
use Rattle.common_laws.proofs.Lists.{filter-In}
use Rattle.sm_standing.proofs.PlainDisks.{map_numbers}
use Rattle.sm_standing.proofs.TurnLaws.{reads_here, up_reads}
use Rattle.sm_standing.proofs.WalkLaws.{walk_same, walk_zeros, IsZerosStill, turn-up, turn-within, turn-past, depth_up, depth_grows, short_reads, reads_short}

-- ---- an image over a parent that holds alike

pub parent-is : (c : Content) (n p : Name) (i : Image) → image_of c n ≡ Some i → i.parent ≡ Some p → parent_of c n ≡ Some p
parent-is c n p i is parent = ap (λ o. link_of o >>= (λ j. j.parent)) is ∙ parent

short_above : (c : Content) (n p : Name) → parent_of c n ≡ Some p → IsShortChain c n → IsShortChain c p
short_above c n p at short = omega (arith, depth_up (outline c) 30 n p at, depth_grows (outline c) 30 p, short)

copied-step : (c : Content) (n p : Name) (i q : Image) → IsCopied c n p i q → IsShortChain c n → (s : ℕ) → s < i.size → (o : Option (List ℕ)) → i.own s ≡ o
    → image_reads c n s ≡ image_reads c p s
copied-step c n p i q h short s below (Some bytes) is =
    let above = short_above c n p (parent-is c n p i h.image h.parent) short in
    let here_n : answer_of s (image_of c n) ≡ here bytes = turn-within s (image_of c n) i h.image below ∙ ap (λ o. held_or o i.parent) is in
    let here_p : answer_of s (image_of c p) ≡ here bytes =
    turn-within s (image_of c p) q h.below (omega (arith, h.size)) ∙ ap (λ o. held_or o q.parent) (h.held s bytes is) in
    sym (reads_short c n s bytes short (reads_here (turns_of c s) n bytes here_n)) ∙ reads_short c p s bytes above (reads_here (turns_of c s) p bytes here_p)
copied-step c n p i q h short s below None is =
    let above = short_above c n p (parent-is c n p i h.image h.parent) short in
    let sent : answer_of s (image_of c n) ≡ up p = turn-within s (image_of c n) i h.image below ∙ ap (λ o. held_or o i.parent) is ∙ ap (λ o. held_or None o) h.parent in
    reads_short c p s (image_reads c n s) above (up_reads (turns_of c s) n p (image_reads c n s) sent (short_reads c n s short))

pub copied : (c : Content) (n p : Name) (i q : Image) → IsCopied c n p i q → IsShortChain c n → (s : ℕ) → s < i.size → image_reads c n s ≡ image_reads c p s
copied c n p i q h short s below = copied-step c n p i q h short s below (i.own s) refl

-- ---- an image that grows

same_turns : (a b : Content) (x : Name) (s : ℕ) → SameImagesBut a b x → answer_of s (image_of b x) ≡ answer_of s (image_of a x)
    → (n : Name) (t : Bool) → name_eq n x ≡ t → answer_of s (image_of b n) ≡ answer_of s (image_of a n)
same_turns a b x s others same n true is =
    let at = name_eq-true n x is in
    ap (λ m. answer_of s (image_of b m)) at ∙ same ∙ ap (λ m. answer_of s (image_of a m)) (sym at)
same_turns a b x s others same n false is = ap (answer_of s) (others n (name_eq-false n x is))

raised-within : (a b : Content) (x : Name) (i j : Image) → IsRaised a b x i j → (s : ℕ) → s < i.size → answer_of s (image_of b x) ≡ answer_of s (image_of a x)
raised-within a b x i j h s below =
    turn-within s (image_of b x) j h.after (omega (arith, h.larger)) ∙ ap₂ held_or (h.own s) h.parent ∙ sym (turn-within s (image_of a x) i h.before below)

parent-zeros : (a : Content) (s : ℕ) (p : Name) (o : Option Image) → image_of a p ≡ o → ((q : Image) → o ≡ Some q → q.size ≤ s) → answer_of s (image_of a p) ≡ here zeros
unfolding answer_of
parent-zeros a s p None is low = ap (answer_of s) is
parent-zeros a s p (Some q) is low = turn-past s (image_of a p) q is (low q refl)

raised-turn : (a b : Content) (x : Name) (i j : Image) → IsRaised a b x i j → (s : ℕ) → i.size ≤ s → (s < j.size) ⊎ (j.size ≤ s) → (o : Option Name) → i.parent ≡ o
    → IsZerosStill (turns_of a s) (turns_of b s) x
raised-turn a b x i j h s past (inr outside) o is = inl (turn-past s (image_of b x) j h.after outside)
raised-turn a b x i j h s past (inl below) None is =
    inl (turn-within s (image_of b x) j h.after below ∙ ap₂ held_or (h.own s ∙ h.empty s past) (h.parent ∙ is))
raised-turn a b x i j h s past (inl below) (Some p) is =
    inr (
      p,
      turn-within s (image_of b x) j h.after below ∙ ap₂ held_or (h.own s ∙ h.empty s past) (h.parent ∙ is),
      parent-zeros a s p (image_of a p) refl (λ q there. omega (arith, h.fits p q is there)),
      λ e. h.no_loop (is ∙ ap Some e),
    )

raised-case : (a b : Content) (x : Name) (i j : Image) → IsRaised a b x i j → (n : Name) (s : ℕ) → (s < i.size) ⊎ (i.size ≤ s) → image_reads b n s ≡ image_reads a n s
unfolding image_reads
raised-case a b x i j h n s (inl below) =
    walk_same (λ m. ℕ) (turns_of a s) (turns_of b s) (record { closed = λ m p is sent. is })
    (λ m is. same_turns a b x s h.others (raised-within a b x i j h s below) m (name_eq m x) refl) 30 n 0
raised-case a b x i j h n s (inr past) =
    walk_zeros (turns_of a s) (turns_of b s) x (λ m other. ap (answer_of s) (h.others m other)) (turn-past s (image_of a x) i h.before past)
    (raised-turn a b x i j h s past (cases_lt s j.size) i.parent refl) 30 n (name_eq n x) refl

pub raised_same : (a b : Content) (x : Name) (i j : Image) → IsRaised a b x i j → (n : Name) (s : ℕ) → image_reads b n s ≡ image_reads a n s
raised_same a b x i j h n s = raised-case a b x i j h n s (cases_lt s i.size)

pub past_zeros : (a : Content) (x : Name) (i : Image) (s : ℕ) → image_of a x ≡ Some i → i.size ≤ s → image_reads a x s ≡ zeros
unfolding image_reads walk
past_zeros a x i s is past = ap (λ t. elim t [ here b ↦ b | up p ↦ walk 29 (turns_of a s) p ]) (turn-past s (image_of a x) i is past)

pub raised_zeros : (a b : Content) (x : Name) (i j : Image) → IsRaised a b x i j → (s : ℕ) → i.size ≤ s → image_reads b x s ≡ zeros
raised_zeros a b x i j h s past = raised_same a b x i j h x s ∙ past_zeros a x i s h.before past

-- ---- what is read of an image

reads_turn : (c : Content) (n : Name) (s : ℕ) (bytes : List ℕ) → answer_of s (image_of c n) ≡ here bytes → image_reads c n s ≡ bytes
unfolding image_reads walk
reads_turn c n s bytes is = ap (λ t. elim t [ here b ↦ b | up p ↦ walk 29 (turns_of c s) p ]) is

-- what it holds
pub held_reads : (c : Content) (n : Name) (i : Image) (s : ℕ) (bytes : List ℕ) → image_of c n ≡ Some i → s < i.size → i.own s ≡ Some bytes → image_reads c n s ≡ bytes
held_reads c n i s bytes is below held = reads_turn c n s bytes (turn-within s (image_of c n) i is below ∙ ap (λ o. held_or o i.parent) held)

-- zeros where it holds nothing and has no parent
pub top_reads : (c : Content) (n : Name) (i : Image) (s : ℕ) → image_of c n ≡ Some i → i.own s ≡ None → i.parent ≡ None → (s < i.size) ⊎ (i.size ≤ s) → image_reads c n s ≡ zeros
top_reads c n i s is none top (inl below) = reads_turn c n s zeros (turn-within s (image_of c n) i is below ∙ ap₂ held_or none top)
top_reads c n i s is none top (inr past) = past_zeros c n i s is past

pub top_zeros : (c : Content) (n : Name) (i : Image) (s : ℕ) → image_of c n ≡ Some i → i.own s ≡ None → i.parent ≡ None → image_reads c n s ≡ zeros
top_zeros c n i s is none top = top_reads c n i s is none top (cases_lt s i.size)

-- else what its parent reads
pub parent_reads : (c : Content) (n p : Name) (i : Image) (s : ℕ) → image_of c n ≡ Some i → s < i.size → i.own s ≡ None → i.parent ≡ Some p → IsShortChain c n → image_reads c n s ≡ image_reads c p s
parent_reads c n p i s is below none up_to short =
    let sent : answer_of s (image_of c n) ≡ up p = turn-within s (image_of c n) i is below ∙ ap₂ held_or none up_to in
    reads_short c p s (image_reads c n s) (short_above c n p (parent-is c n p i is up_to) short) (up_reads (turns_of c s) n p (image_reads c n s) sent (short_reads c n s short))

-- ---- the same images

reads_same : (c d : Content) → ((n : Name) → image_of d n ≡ image_of c n) → (n : Name) (k : ℕ) → image_reads d n k ≡ image_reads c n k
unfolding image_reads
reads_same c d same n k = ap (λ (f : Name → Option Image). walk chain_limit (λ x. answer_of k (f x)) n) (fun_ext same)

-- where the images are the same, so is what is read
pub sectors_same : (c d : Content) → ((n : Name) → image_of d n ≡ image_of c n) → (n : Name) → sectors_read d n ≡ sectors_read c n
unfolding sectors_read
sectors_same c d same n =
    ap₂ (λ (o : Option Image) (f : ℕ → List ℕ). elim o as (λ o. List (List ℕ)) [ None ↦ [] | Some i ↦ map f (numbers 0 i.size) ]) (same n) (fun_ext (λ k. reads_same c d same n k))

-- and where each UUID stands where it stood and has its record, the disks
pub disks_as : (c d : Content) → ((u : List ℕ) → standing_volume d.table u ≡ standing_volume c.table u) → ((n : Name) → image_of d n ≡ image_of c n) → ((u : List ℕ) → record_of d u ≡ record_of c u) → disks d ≡ disks c
unfolding disk_at
disks_as c d stands same recorded = disks_same c d (λ u.
    ap₂ (λ x y. x >>= (λ n. y >>= (λ r. Some (disk_in d u r n)))) (stands u) (recorded u)
    ∙ ap (λ (f : Name → List (List ℕ)). standing_volume c.table u >>= (λ n. record_of c u >>= (λ r. Some (record { uuid = u; label = r.label; origin = r.origin; read_only = r.read_only; sectors = f n })))) (fun_ext (sectors_same c d same)))

-- ---- a disk that moves

moved_sectors : (a b : Content) (n m : Name) (i j : Image) → image_of a n ≡ Some i → image_of b m ≡ Some j → j.size ≡ i.size
    → ((s : ℕ) → s < i.size → image_reads b m s ≡ image_reads a n s) → sectors_read b m ≡ sectors_read a n
unfolding sectors_read
moved_sectors a b n m i j before after size same =
    ap (λ o. elim o [ None ↦ [] | Some k ↦ map (image_reads b m) (numbers 0 k.size) ]) after
    ∙ ap (λ k. map (image_reads b m) (numbers 0 k)) size
    ∙ map_numbers (image_reads b m) (image_reads a n) 0 i.size (λ k from below. same k (omega (arith, below)))
    ∙ sym (ap (λ o. elim o [ None ↦ [] | Some k ↦ map (image_reads a n) (numbers 0 k.size) ]) before)

pub moved_disk : (a b : Content) (u : List ℕ) (n m : Name) → standing_volume a.table u ≡ Some n → standing_volume b.table u ≡ Some m → record_of b u ≡ record_of a u
    → sectors_read b m ≡ sectors_read a n → disk_at b u ≡ disk_at a u
unfolding disk_at
moved_disk a b u n m stood now recorded same =
    ap (λ o. o >>= (λ k. record_of b u >>= (λ r. Some (disk_in b u r k)))) now
    ∙ ap₂ (λ o (sectors : List (List ℕ)). o >>= (λ r. Some (made r sectors))) recorded same
    ∙ sym (ap (λ o. o >>= (λ k. record_of a u >>= (λ r. Some (disk_in a u r k)))) stood)
  where
    made : Record → List (List ℕ) → Disk
    made r sectors = record { uuid = u; label = r.label; origin = r.origin; read_only = r.read_only; sectors = sectors }

pub moved : (a b : Content) (u : List ℕ) (n m : Name) (i j : Image) → IsMoved a b u n m i j → disk_at b u ≡ disk_at a u
moved a b u n m i j h = moved_disk a b u n m h.stood h.stands_now h.recorded (moved_sectors a b n m i j h.before h.after h.size h.same)

-- ---- an image that goes

-- an image lies in a volume
pub image_there : (c : Content) (n : Name) (i : Image) → image_of c n ≡ Some i → (r : Row) × (row c n ≡ Some r)
unfolding image_of
image_there c (Raw u) i h = bind-some (row c (Raw u)) (λ r. cond r.fresh None (Some (raw_image c (Raw u)))) i h
image_there c (Vhd u) i h = bind-some (row c (Vhd u)) (λ r. cond r.fresh None (vhd_image c (Vhd u) r)) i h
image_there c _ i h = absurd (let x = h in cc)

-- an image without children is nobody's parent
pub childless_parent : (c : Content) (x n : Name) (i : Image) → same_image x x ≡ true → children (outline c) x ≡ [] → image_of c n ≡ Some i → i.parent ≢ Some x
unfolding children
childless_parent c x n i named none is parent =
    let w = image_there c n i is in
    let f = row_of-In c.table.volumes n w.0 w.1 in
    let at = name_eq-true w.0.name n f.1 in
    let passes : parent_is x (link_of (image_of c w.0.name)) ≡ true =
    ap (λ m. parent_is x (link_of (image_of c m))) at ∙ ap (λ o. parent_is x (link_of o)) is ∙ ap (λ o. elim o [ None ↦ false | Some q ↦ same_image q x ]) parent ∙ named in
    let kept = subst (In w.0) none (filter-In (λ r. parent_is x (link_of (image_of c r.name))) c.table.volumes w.0 f.0 passes) in
    elim kept [ ]

-- an old leaf holds no image
pub old_image : (c : Content) (u : List ℕ) → image_of c (Old u) ≡ None
unfolding image_of
old_image c u = refl

-- nor does a new volume
pub new_image : (c : Content) (n : Name) (r : Row) → row c n ≡ Some r → r.fresh ≡ true → image_of c n ≡ None
unfolding image_of
new_image c (Raw u) r there fresh = ap (λ o. o >>= (λ s. cond s.fresh None (Some (raw_image c (Raw u))))) there ∙ ap (λ b. cond b None (Some (raw_image c (Raw u)))) fresh
new_image c (Vhd u) r there fresh = ap (λ o. o >>= (λ s. cond s.fresh None (vhd_image c (Vhd u) s))) there ∙ ap (λ b. cond b None (vhd_image c (Vhd u) r)) fresh
new_image c _ r there fresh = refl

quiet : (t : VolumeTable) (u : List ℕ) → making t ≡ [] → folding t ≡ [] → standing_volume t u ≡ stands_plainly t u
unfolding standing_volume
quiet t u no_making no_folding =
    ap (λ ns. under (λ e. stands_forked t e u) (head ns) (under (λ e. stands_folded t e u) (head (folding t)) (stands_plainly t u))) no_making
    ∙ ap (λ ns. under (λ e. stands_folded t e u) (head ns) (stands_plainly t u)) no_folding

hidden_test : (h f : Bool) → h ≡ true → (not h && not f) ≡ false
hidden_test true f is = refl
hidden_test false f is = absurd (let x = is in cc)

removed_visible : (a b : Content) (x : Name) (was : Row) → IsRemoved a b x was → (n : Name) (t : Bool) → name_eq n x ≡ t → is_visible b.table n ≡ is_visible a.table n
removed_visible a b x was h n true is =
    let at = name_eq-true n x is in
    ap (is_visible b.table) at ∙ ap (of_row (λ r. not r.hidden && not r.fresh)) h.gone
    ∙ sym (ap (is_visible a.table) at ∙ ap (of_row (λ r. not r.hidden && not r.fresh)) h.there ∙ hidden_test was.hidden was.fresh h.hidden)
removed_visible a b x was h n false is = ap (of_row (λ r. not r.hidden && not r.fresh)) (h.others n (name_eq-false n x is))

abbrev plainly_by : Bool → Bool → List ℕ → Option Name
plainly_by v r u = cond v (Some (Vhd u)) (cond r (Some (Raw u)) None)

removed_stands : (a b : Content) (x : Name) (was : Row) → IsRemoved a b x was → (u : List ℕ) → standing_volume b.table u ≡ standing_volume a.table u
removed_stands a b x was h u =
    quiet b.table u h.still_none_making h.still_none_folding
    ∙ ap₂ (λ v r. plainly_by v r u) (removed_visible a b x was h (Vhd u) (name_eq (Vhd u) x) refl) (removed_visible a b x was h (Raw u) (name_eq (Raw u) x) refl)
    ∙ sym (quiet a.table u h.none_making h.none_folding)

plainly-visible : (t : VolumeTable) (u : List ℕ) (v r : Bool) → is_visible t (Vhd u) ≡ v → is_visible t (Raw u) ≡ r → (n : Name) → plainly_by v r u ≡ Some n → is_visible t n ≡ true
plainly-visible t u true r is_v is_r n h = let at : Vhd u ≡ n = (let x = h in cc) in subst (λ m. is_visible t m ≡ true) at is_v
plainly-visible t u false true is_v is_r n h = let at : Raw u ≡ n = (let x = h in cc) in subst (λ m. is_visible t m ≡ true) at is_r
plainly-visible t u false false is_v is_r n h = absurd (let x = h in cc)

-- no disk stands in what is removed
removed_other : (a b : Content) (x : Name) (was : Row) → IsRemoved a b x was → (u : List ℕ) (n : Name) → standing_volume a.table u ≡ Some n → n ≢ x
removed_other a b x was h u n standing at =
    let seen = plainly-visible a.table u (is_visible a.table (Vhd u)) (is_visible a.table (Raw u)) refl refl n (sym (quiet a.table u h.none_making h.none_folding) ∙ standing) in
    let unseen : is_visible a.table x ≡ false = ap (of_row (λ r. not r.hidden && not r.fresh)) h.there ∙ hidden_test was.hidden was.fresh h.hidden in
    let e : true ≡ false = sym seen ∙ ap (is_visible a.table) at ∙ unseen in
    (let y = e in cc)

removed_reads : (a b : Content) (x : Name) (was : Row) → IsRemoved a b x was → (n : Name) → n ≢ x → (s : ℕ) → image_reads b n s ≡ image_reads a n s
unfolding image_reads
removed_reads a b x was h n other s =
    walk_same (λ m. m ≢ x) (turns_of a s) (turns_of b s) (record { closed = closed })
    (λ m away. ap (answer_of s) (h.images m away)) 30 n other
  where
    closed : (m p : Name) → m ≢ x → answer_of s (image_of a m) ≡ up p → p ≢ x
    closed m p away sent at =
        let w = turn-up s (image_of a m) p sent in
        childless_parent a x m w.image h.name h.childless w.there (w.parent ∙ ap Some at)

removed_sectors : (a b : Content) (x : Name) (was : Row) → IsRemoved a b x was → (n : Name) → n ≢ x → (o : Option Image) → image_of a n ≡ o → sectors_read b n ≡ sectors_read a n
unfolding sectors_read
removed_sectors a b x was h n other None is =
    ap (λ o. elim o [ None ↦ [] | Some k ↦ map (image_reads b n) (numbers 0 k.size) ]) (h.images n other ∙ is)
    ∙ sym (ap (λ o. elim o [ None ↦ [] | Some k ↦ map (image_reads a n) (numbers 0 k.size) ]) is)
removed_sectors a b x was h n other (Some i) is =
    moved_sectors a b n n i i is (h.images n other ∙ is) refl (λ s below. removed_reads a b x was h n other s)

none_disk : (a b : Content) (u : List ℕ) → standing_volume a.table u ≡ None → standing_volume b.table u ≡ None → disk_at b u ≡ disk_at a u
unfolding disk_at
none_disk a b u stood now =
    ap (λ o. o >>= (λ k. record_of b u >>= (λ r. Some (disk_in b u r k)))) now
    ∙ sym (ap (λ o. o >>= (λ k. record_of a u >>= (λ r. Some (disk_in a u r k)))) stood)

removed_disk : (a b : Content) (x : Name) (was : Row) → IsRemoved a b x was → (u : List ℕ) (o : Option Name) → standing_volume a.table u ≡ o → disk_at b u ≡ disk_at a u
removed_disk a b x was h u None is = none_disk a b u is (removed_stands a b x was h u ∙ is)
removed_disk a b x was h u (Some n) is =
    moved_disk a b u n n is (removed_stands a b x was h u ∙ is) (h.recorded u)
    (removed_sectors a b x was h n (removed_other a b x was h u n is) (image_of a n) refl)

pub removed_disks : (a b : Content) (x : Name) (was : Row) → IsRemoved a b x was → disks b ≡ disks a
removed_disks a b x was h = disks_same a b (λ u. removed_disk a b x was h u (standing_volume a.table u) refl)
