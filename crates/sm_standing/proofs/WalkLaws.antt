-- Walks of a bounded number of images, and the turns of a content.
use Rattle.std.proofs.Common.{◌≡◌, ◌≢◌, ◌⊎◌, inl, inr, ℕ, zero, suc, ◌<◌, ◌≤◌, Bool, true, false, cond, List, Option, Some, None, refl, sym, ap, ◌∙◌, subst, arith, nat_lt}
use Rattle.std.proofs.lemmas.Bool.{lt-ltb, le-ltb}
use Rattle.sm_base.specs.declared.names.Name.{Name}
use Rattle.sm_disk.specs.Sectors.{zeros}
use Rattle.vg_meta.specs.Tables.{name_eq}
use Rattle.vg_meta.proofs.NameLaws.{name_eq-true, name_eq-false}
use Rattle.common_laws.specs.Lists.{◌>>=◌}
use Rattle.sm_standing.specs.Changes.{turns_of, parent_of, IsShortChain, renamed_parent, IsLinkedUp}
use Rattle.sm_standing.specs.Checks.{chain_length, depth}
use Rattle.sm_standing.specs.Outlines.{Outline, Link, parent_in, link_of, outline}
use Rattle.sm_standing.specs.Contents.{Content}
use Rattle.sm_standing.specs.Images.{Image, ImageAnswer, here, up, held_or, answer_of, walk, image_reads, image_of}
use Rattle.sm_standing.specs.Answering.{ImageAnswers, answer, Reads, IsClosed, SameBut}
use Rattle.sm_standing.proofs.TurnLaws.{up_reads, here_reads, walked}

-- ---- walks

-- what a turn gives, with so many images to walk behind it
abbrev turned : ℕ → ImageAnswers → ImageAnswer → List ℕ
turned k f t = elim t [ here b ↦ b | up p ↦ walk k f p ]

step_same : (f g : ImageAnswers) (k : ℕ) (t : ImageAnswer) → ((p : Name) → t ≡ up p → walk k g p ≡ walk k f p)
    → turned k g t ≡ turned k f t
step_same f g k (here b) rest = refl
step_same f g k (up p) rest = rest p refl

-- equal turns on a set that parents do not leave: the same walks there
pub walk_same : (P : Name → Type 0) (f g : ImageAnswers) → IsClosed P f → ((n : Name) → P n → g n ≡ f n) → (k : ℕ) (n : Name) → P n → walk k g n ≡ walk k f n
unfolding walk
walk_same P f g inside same zero n is = refl
walk_same P f g inside same (suc k) n is =
    ap (λ t. elim t [ here b ↦ b | up p ↦ walk k g p ]) (same n is)
    ∙ step_same f g k (f n) (λ p sent. walk_same P f g inside same k p (inside.closed n p is sent))

walk_here : (f : ImageAnswers) (k : ℕ) (n : Name) → f n ≡ here zeros → walk k f n ≡ zeros
unfolding walk
walk_here f zero n h = refl
walk_here f (suc k) n h = ap (λ t. elim t [ here b ↦ b | up p ↦ walk k f p ]) h

walk_up : (f : ImageAnswers) (k : ℕ) (n p : Name) → f n ≡ up p → f p ≡ here zeros → walk k f n ≡ zeros
unfolding walk
walk_up f zero n p sent h = refl
walk_up f (suc k) n p sent h = ap (λ t. elim t [ here b ↦ b | up q ↦ walk k f q ]) sent ∙ walk_here f k p h

-- one name that answered with zeros answers so, or sends up to another that does
abbrev pub IsZerosStill : ImageAnswers → ImageAnswers → Name → Type 0
IsZerosStill f g x = (g x ≡ here zeros) ⊎ ((p : Name) × (g x ≡ up p) × (f p ≡ here zeros) × (p ≢ x))

zeros_still : (f g : ImageAnswers) (x : Name) → SameBut f g x → IsZerosStill f g x → (k : ℕ) → walk k g x ≡ zeros
zeros_still f g x same (inl h) k = walk_here g k x h
zeros_still f g x same (inr w) k = walk_up g k x w.0 w.1 (same w.0 w.3 ∙ w.2)

pub walk_zeros : (f g : ImageAnswers) (x : Name) → SameBut f g x → f x ≡ here zeros → IsZerosStill f g x → (k : ℕ) (n : Name) (b : Bool) → name_eq n x ≡ b → walk k g n ≡ walk k f n
unfolding walk
walk_zeros f g x same was still k n true is =
    let at = name_eq-true n x is in
    ap (walk k g) at ∙ zeros_still f g x same still k ∙ sym (walk_here f k x was) ∙ ap (walk k f) (sym at)
walk_zeros f g x same was still zero n false is = refl
walk_zeros f g x same was still (suc k) n false is =
    ap (λ t. elim t [ here b ↦ b | up p ↦ walk k g p ]) (same n (name_eq-false n x is))
    ∙ step_same f g k (f n) (λ p sent. walk_zeros f g x same was still k p (name_eq p x) refl)

-- ---- turns of an image

-- an image that sends up holds nothing there, and has that parent
pub record SendsUp (o : Option Image) (s : ℕ) (p : Name) : Type 0 where
  pub image : Image
  pub there : o ≡ Some image
  pub parent : image.parent ≡ Some p

held-up : (b : Bool) (o : Option (List ℕ)) (q : Option Name) (p : Name) → cond b (held_or o q) (here zeros) ≡ up p → q ≡ Some p
held-up true (Some bytes) q p h = absurd (let x = h in cc)
held-up true None (Some r) p h = (let x = h in cc)
held-up true None None p h = absurd (let x = h in cc)
held-up false o q p h = absurd (let x = h in cc)

pub turn-up : (s : ℕ) (o : Option Image) (p : Name) → answer_of s o ≡ up p → SendsUp o s p
unfolding answer_of
turn-up s None p h = absurd (let x = h in cc)
turn-up s (Some i) p h = record { image = i; there = refl; parent = held-up (nat_lt s i.size) (i.own s) i.parent p h }

-- the turn of an image within its size, and past it
pub turn-within : (s : ℕ) (o : Option Image) (i : Image) → o ≡ Some i → s < i.size → answer_of s o ≡ held_or (i.own s) i.parent
unfolding answer_of
turn-within s o i is below = ap (answer_of s) is ∙ ap (λ b. cond b (held_or (i.own s) i.parent) (here zeros)) (lt-ltb s i.size below)

pub turn-past : (s : ℕ) (o : Option Image) (i : Image) → o ≡ Some i → i.size ≤ s → answer_of s o ≡ here zeros
unfolding answer_of
turn-past s o i is past = ap (answer_of s) is ∙ ap (λ b. cond b (held_or (i.own s) i.parent) (here zeros)) (le-ltb s i.size past)

-- ---- chains

-- one image more than from the parent up
pub depth_up : (o : Outline) (k : ℕ) (n p : Name) → parent_in o n ≡ Some p → depth o (suc k) n ≡ suc (depth o k p)
unfolding depth
depth_up o k n p h = ap (λ up. suc (elim up [ None ↦ 0 | Some q ↦ depth o k q ])) h

pub depth_top : (o : Outline) (k : ℕ) (n : Name) → parent_in o n ≡ None → depth o (suc k) n ≡ 1
unfolding depth
depth_top o k n h = ap (λ up. suc (elim up [ None ↦ 0 | Some q ↦ depth o k q ])) h

-- the images of a chain: none where there is no image, one where it has no parent, else one more than from the parent up
pub length_none : (o : Outline) (k : ℕ) (n : Name) → o.links n ≡ None → chain_length o k n ≡ 0
unfolding chain_length
length_none o zero n h = refl
length_none o (suc k) n h = ap (λ l. elim l [ None ↦ 0 | Some i ↦ suc (elim i.parent [ None ↦ 0 | Some p ↦ chain_length o k p ]) ]) h

pub length_top : (o : Outline) (k : ℕ) (n : Name) (i : Link) → o.links n ≡ Some i → i.parent ≡ None → chain_length o (suc k) n ≡ 1
unfolding chain_length
length_top o k n i is top =
    ap (λ l. elim l [ None ↦ 0 | Some j ↦ suc (elim j.parent [ None ↦ 0 | Some p ↦ chain_length o k p ]) ]) is
    ∙ ap (λ up. suc (elim up [ None ↦ 0 | Some p ↦ chain_length o k p ])) top

pub length_up : (o : Outline) (k : ℕ) (n p : Name) (i : Link) → o.links n ≡ Some i → i.parent ≡ Some p → chain_length o (suc k) n ≡ suc (chain_length o k p)
unfolding chain_length
length_up o k n p i is above =
    ap (λ l. elim l [ None ↦ 0 | Some j ↦ suc (elim j.parent [ None ↦ 0 | Some q ↦ chain_length o k q ]) ]) is
    ∙ ap (λ up. suc (elim up [ None ↦ 0 | Some q ↦ chain_length o k q ])) above

grows-step : (o : Outline) (k : ℕ) (up : Option Name) → ((p : Name) → depth o (suc k) p ≤ suc (depth o k p))
    → suc (elim up [ None ↦ 0 | Some p ↦ depth o (suc k) p ]) ≤ suc (suc (elim up [ None ↦ 0 | Some p ↦ depth o k p ]))
grows-step o k None rest = omega arith
grows-step o k (Some p) rest = omega (arith, rest p)

-- one step more counts at most one image more
pub depth_grows : (o : Outline) (k : ℕ) (n : Name) → depth o (suc k) n ≤ suc (depth o k n)
unfolding depth
depth_grows o zero n = first (parent_in o n)
  where
    first : (up : Option Name) → suc (elim up [ None ↦ 0 | Some p ↦ 0 ]) ≤ 1
    first None = omega arith
    first (Some p) = omega arith
depth_grows o (suc k) n = grows-step o k (parent_in o n) (λ p. depth_grows o k p)

renamed-step : (rename : Name → Name) (a b : Outline) (k : ℕ) (up : Option Name) → ((p : Name) → depth b k (rename p) ≡ depth a k p)
    → suc (elim (renamed_parent rename up) [ None ↦ 0 | Some p ↦ depth b k p ]) ≡ suc (elim up [ None ↦ 0 | Some p ↦ depth a k p ])
renamed-step rename a b k None rest = refl
renamed-step rename a b k (Some p) rest = ap suc (rest p)

-- a chain under other names is as long
pub depth_renamed : (rename : Name → Name) (a b : Outline) → ((n : Name) → parent_in b (rename n) ≡ renamed_parent rename (parent_in a n))
    → (k : ℕ) (n : Name) → depth b k (rename n) ≡ depth a k n
unfolding depth
depth_renamed rename a b same zero n = refl
depth_renamed rename a b same (suc k) n =
    ap (λ up. suc (elim up [ None ↦ 0 | Some p ↦ depth b k p ])) (same n) ∙ renamed-step rename a b k (parent_in a n) (λ p. depth_renamed rename a b same k p)

kept-step : (a b : Outline) (k : ℕ) (up : Option Name) → ((p : Name) → depth b k p ≤ depth a k p)
    → suc (elim up [ None ↦ 0 | Some p ↦ depth b k p ]) ≤ suc (elim up [ None ↦ 0 | Some p ↦ depth a k p ])
kept-step a b k None rest = omega arith
kept-step a b k (Some p) rest = omega (arith, rest p)

linked-step : (a b : Outline) (k : ℕ) (n : Name) → (parent_in b n ≡ parent_in a n)
    ⊎ ((v : Name) × (p : Name) × (parent_in a n ≡ Some v) × (parent_in a v ≡ Some p) × (parent_in b n ≡ Some p))
    → ((p : Name) → depth b k p ≤ depth a k p) → depth b (suc k) n ≤ depth a (suc k) n
unfolding depth
linked-step a b k n (inl same) rest = subst (λ up. suc (elim up [ None ↦ 0 | Some p ↦ depth b k p ]) ≤ depth a (suc k) n) (sym same) (kept-step a b k (parent_in a n) rest)
linked-step a b zero n (inr (v, p, at, above, now)) rest = omega (arith, depth_up a 0 n v at, depth_up b 0 n p now, rest p)
linked-step a b (suc k) n (inr (v, p, at, above, now)) rest =
    omega (arith, depth_up a (suc k) n v at, depth_up b (suc k) n p now, rest p, depth_up a k v p above, depth_grows a k p)

-- a chain past one image is no longer
pub depth_linked : (a b : Outline) → IsLinkedUp a b → (k : ℕ) (n : Name) → depth b k n ≤ depth a k n
unfolding depth
depth_linked a b linked zero n = omega arith
depth_linked a b linked (suc k) n = linked-step a b k n (linked n) (λ p. depth_linked a b linked k p)

-- ---- reading without a bound, and the walk

ended-step : (c : Content) (s k : ℕ) (n : Name) → suc (elim (parent_of c n) [ None ↦ 0 | Some p ↦ depth (outline c) (suc k) p ]) ≤ suc k
    → ((p : Name) → depth (outline c) (suc k) p ≤ k → (bytes : List ℕ) × (answer k (turns_of c s) p ≡ Some bytes))
    → (t : ImageAnswer) → answer_of s (image_of c n) ≡ t → (bytes : List ℕ) × (elim t [ here b ↦ Some b | up p ↦ answer k (turns_of c s) p ] ≡ Some bytes)
ended-step c s k n low rest (here b) is = (b, refl)
ended-step c s k n low rest (up p) is =
    let w = turn-up s (image_of c n) p is in
    let at : parent_of c n ≡ Some p = ap (λ o. link_of o >>= (λ i. i.parent)) w.there ∙ w.parent in
    let counted = subst (λ o. suc (elim o [ None ↦ 0 | Some q ↦ depth (outline c) (suc k) q ]) ≤ suc k) at low in
    rest p (omega (arith, counted))

-- a chain of at most k images answers within k turns
pub ended : (c : Content) (s k : ℕ) (n : Name) → depth (outline c) (suc k) n ≤ k → (bytes : List ℕ) × (answer k (turns_of c s) n ≡ Some bytes)
unfolding depth answer
ended c s zero n low = absurd (omega (arith, low))
ended c s (suc k) n low = ended-step c s k n low (λ p h. ended c s k p h) (answer_of s (image_of c n)) refl

once-step : (f : ImageAnswers) (k : ℕ) (n : Name) (b d : List ℕ) → ((p : Name) → answer k f p ≡ Some b → Reads f p d → d ≡ b) → Reads f n d
    → (t : ImageAnswer) → f n ≡ t → elim t [ here x ↦ Some x | up p ↦ answer k f p ] ≡ Some b → d ≡ b
once-step f k n b d rest image_reads (here x) is h = here_reads f n x d is image_reads ∙ (let e = h in cc)
once-step f k n b d rest image_reads (up p) is h = rest p h (up_reads f n p d is image_reads)

-- what is read is one value
pub reads_once : (f : ImageAnswers) (k : ℕ) (n : Name) (b d : List ℕ) → answer k f n ≡ Some b → Reads f n d → d ≡ b
unfolding answer
reads_once f zero n b d h image_reads = absurd (let e = h in cc)
reads_once f (suc k) n b d h image_reads = once-step f k n b d (λ p i r. reads_once f k p b d i r) image_reads (f n) refl h

-- where the chain is short, the walk reads what turns without a bound read, and nothing else is read so
pub short_reads : (c : Content) (n : Name) (s : ℕ) → IsShortChain c n → Reads (turns_of c s) n (image_reads c n s)
unfolding image_reads
short_reads c n s short =
    let w = ended c s 30 n short in
    (30, w.1 ∙ ap Some (sym (walked (turns_of c s) 30 n w.0 w.1)))

pub reads_short : (c : Content) (n : Name) (s : ℕ) (bytes : List ℕ) → IsShortChain c n → Reads (turns_of c s) n bytes → bytes ≡ image_reads c n s
reads_short c n s bytes short is =
    let w = short_reads c n s short in
    reads_once (turns_of c s) w.0 n (image_reads c n s) bytes w.1 is
