-- A block that no image of a chain has reads as zeros.
use Rattle.std.proofs.Common.{◌≡◌, ◌⊎◌, inl, inr, ℕ, zero, suc, ◌+◌, ◌*◌, ◌/◌, ◌%◌, ◌<◌, ◌≤◌, Bool, true, false, List, length, Option, Some, None, refl, sym, ap, ◌∙◌, arith}
use Rattle.std.specs.Prelude.{nat_lt, ◌==◌, ◌||◌, is_some, if◌then◌else◌}
use Rattle.std.proofs.lemmas.Nat.{div-mul-add}
use Rattle.std.proofs.lemmas.List.FromFn.{get_or-map-range_with_len}
use Rattle.std.proofs.lemmas.Bool.{cases_lt}
use Rattle.std.proofs.lemmas.Bool.Decides.{nat_tests}
use Rattle.common_laws.specs.Lists.{◌>>=◌}
use Rattle.common_laws.proofs.Options.{bind-some}
use Rattle.sm_base.specs.declared.names.Name.{Name}
use Rattle.sm_base.specs.declared.names.Name.TheVariants.{Vhd}
use Rattle.sm_disk.specs.Sectors.{zeros}
use Rattle.sm_machine.specs.Shapes.{chain_limit, is_vhd}
use Rattle.vg_meta.specs.Tables.{Row}
use Rattle.vhd_map.specs.Places.{blank}
use Rattle.vhd_map.specs.Slots.{slot_of}
use Rattle.vhd_layout.specs.Layouts.{Layout, Sectors, entry}
use Rattle.vhd_layout.specs.Contents.{content_at, layout_at, own, size_at, slot_at, slots_at, value}
use Rattle.vhd_layout.specs.Readings.{is_valid}
use Rattle.sm_standing.specs.Contents.{Content, row, sectors_of}
use Rattle.sm_standing.specs.Entries.{making}
use Rattle.sm_standing.proofs.WalkLaws.{turn-past, turn-within}
use Rattle.sm_standing.specs.Images.{Image, ImageAnswer, here, up, answer_of, held_or, image_of, image_extents, image_reads, vhd_image, walk}
use Rattle.vhd_stream.specs.Exports.{has_block, is_there}

-- ---- what an image without a slot for a block holds of it

-- a valid VHD image of a volume
pub record IsVhd (c : Content) (u : List ℕ) (i : Image) : Type 0 where
  pub sectors : ℕ
  pub volume : Sectors
  pub lies : volume ≡ sectors_of c (Vhd u)
  pub valid : is_valid c.block c.entries sectors volume ≡ true
  pub is : i ≡ content_at c.block c.entries sectors volume

un-some : {A : Type 0} (x y : A) → Some x ≡ Some y → x ≡ y
un-some {A} x y h = ap (λ (o : Option A). elim o [ None ↦ x | Some z ↦ z ]) h

none-some : {A : Type 0} (x : A) → None ≡ Some x → ⊥
none-some {A} x h = cc h

chosen : (t : Bool) (i j : Image) → (if t then Some j else None) ≡ Some i → (t ≡ true) × (i ≡ j)
chosen true i j h = (refl, sym (un-some j i h))
chosen false i j h = absurd (none-some i h)

-- where a row is there and not new
kept-row : (c : Content) (u : List ℕ) (i : Image) (r : Row) (t : Bool) → r.fresh ≡ t → (if r.fresh then None else vhd_image c (Vhd u) r) ≡ Some i → vhd_image c (Vhd u) r ≡ Some i
kept-row c u i r true is h = absurd (none-some i (ap (λ (t : Bool). if t then None else vhd_image c (Vhd u) r) (sym is) ∙ h))
kept-row c u i r false is h = ap (λ (t : Bool). if t then None else vhd_image c (Vhd u) r) (sym is) ∙ h

pub vhd-is : (c : Content) (u : List ℕ) (i : Image) → image_of c (Vhd u) ≡ Some i → IsVhd c u i
unfolding image_of vhd_image
vhd-is c u i h =
    let body : Row → Option Image = λ r. if r.fresh then None else vhd_image c (Vhd u) r in
    let found = bind-some (row c (Vhd u)) body i h in
    let r = found.0 in
    let e : body r ≡ Some i = ap (λ o. o >>= body) (sym found.1) ∙ h in
    let v = kept-row c u i r r.fresh refl e in
    let n : ℕ = image_extents (making c.table) (Vhd u) (length r.extents) * c.extent in
    let k = chosen (is_valid c.block c.entries n (sectors_of c (Vhd u))) i (content_at c.block c.entries n (sectors_of c (Vhd u))) v in
    record { sectors = n; volume = sectors_of c (Vhd u); lies = refl; valid = k.0; is = k.1 }

value-none : (l : Layout) (v : Sectors) (b k : ℕ) → is_some (slot_at l v b) ≡ false → value v b k ≡ None
unfolding value slot_at
value-none l v b k h = by (entry v b == blank) refl
  where
    by : (t : Bool) → (entry v b == blank) ≡ t → value v b k ≡ None
    by true is = rw is refl
    by false is =
        let has : is_some (slot_at l v b) ≡ true = rw is refl in
        absurd (let clash : true ≡ false = sym has ∙ h in cc clash)

own-none : (block size : ℕ) (v : Sectors) (s : ℕ) → value v (s / block) (s % block) ≡ None → own block size v s ≡ None
unfolding own
own-none block size v s none = by (nat_lt s size) refl
  where
    by : (t : Bool) → nat_lt s size ≡ t → own block size v s ≡ None
    by true is = rw (is, none) refl
    by false is = rw is refl

content-none : (block entries n : ℕ) (v : Sectors) (b j : ℕ) → j < block → b < entries → is_some (slot_of (content_at block entries n v).slots b) ≡ false
    → (content_at block entries n v).own (b * block + j) ≡ None
content-none block entries n v b j part within none =
    let l = layout_at block entries n v in
    let is : (b * block + j) / block ≡ b = div-mul-add b block j part in
    let at : slot_of (slots_at l v) b ≡ slot_at l v b = get_or-map-range_with_len (slot_at l v) 0 entries b b None within (omega arith) in
    let empty : is_some (slot_at l v b) ≡ false = ap is_some (sym at) ∙ none in
    own-none block (size_at n v) v (b * block + j) (rw is (value-none l v b ((b * block + j) % block) empty))

vhd-none : (c : Content) (u : List ℕ) (i : Image) (b j : ℕ) → IsVhd c u i → j < c.block → b < c.entries → is_some (slot_of i.slots b) ≡ false → i.own (b * c.block + j) ≡ None
vhd-none c u i b j v part within none =
    let empty : is_some (slot_of (content_at c.block c.entries v.sectors v.volume).slots b) ≡ false = ap (λ (k : Image). is_some (slot_of k.slots b)) (sym v.is) ∙ none in
    ap (λ (k : Image). k.own (b * c.block + j)) v.is ∙ content-none c.block c.entries v.sectors v.volume b j part within empty

-- ---- what a chain without the block reads as

either : (a b : Bool) → (a || b) ≡ false → (a ≡ false) × (b ≡ false)
either true b h = absurd (let clash : true ≡ false = h in cc clash)
either false b h = (refl, h)

-- an image without the block holds nothing of it, or ends in front of it
without : (c : Content) (n : Name) (i : Image) (b j : ℕ) → image_of c n ≡ Some i → j < c.block → b < c.entries → has_block c.block n i.size i.slots b ≡ false
    → (i.own (b * c.block + j) ≡ None) ⊎ (i.size ≤ b * c.block + j)
unfolding has_block is_vhd
without c (Vhd u) i b j is part within none = inl (vhd-none c u i b j (vhd-is c u i is) part within none)
without c n i b j is part within none = inr (let past : i.size ≤ b * c.block = grind (arith, nat_tests) in omega (arith, past))

above : ℕ → Content → ℕ → Option Name → Bool
above most c b parent = elim parent [ None ↦ false | Some p ↦ is_there most c p b ]

-- what comes of an answer
settled : (Name → List ℕ) → ImageAnswer → List ℕ
settled f a = elim a [ here bytes ↦ bytes | up p ↦ f p ]

there-next : ℕ → Content → Name → ℕ → Option Image → Bool
there-next most c n b o = elim o [ None ↦ false | Some i ↦ has_block c.block n i.size i.slots b || above most c b i.parent ]

none-here : (s : ℕ) → answer_of s None ≡ here zeros
unfolding answer_of
none-here s = refl

held-zeros : (f : Name → List ℕ) (own : Option (List ℕ)) (parent : Option Name) → own ≡ None → ((p : Name) → parent ≡ Some p → f p ≡ zeros) → settled f (held_or own parent) ≡ zeros
unfolding settled
held-zeros f (Some x) parent none up_zeros = absurd (cc none)
held-zeros f None None none up_zeros = refl
held-zeros f None (Some p) none up_zeros = up_zeros p refl

pub not-there : (most : ℕ) (c : Content) (n : Name) (b j : ℕ) → j < c.block → b < c.entries → is_there most c n b ≡ false
    → walk most (λ m. answer_of (b * c.block + j) (image_of c m)) n ≡ zeros
unfolding walk is_there above settled there-next
not-there zero c n b j part within none = refl
not-there (suc most) c n b j part within none = by (λ p h. not-there most c p b j part within h) (image_of c n) refl
  where
    rest : Name → List ℕ
    rest p = walk most (λ m. answer_of (b * c.block + j) (image_of c m)) p

    Below : Type 0
    Below = (p : Name) → is_there most c p b ≡ false → rest p ≡ zeros

    in-bounds : Below → (i : Image) → image_of c n ≡ Some i → above most c b i.parent ≡ false → (i.own (b * c.block + j) ≡ None) ⊎ (i.size ≤ b * c.block + j)
        → (b * c.block + j < i.size) ⊎ (i.size ≤ b * c.block + j) → settled rest (answer_of (b * c.block + j) (image_of c n)) ≡ zeros
    in-bounds ih i is higher o (inr past) = ap (settled rest) (turn-past (b * c.block + j) (image_of c n) i is past)
    in-bounds ih i is higher (inr past) (inl low) = absurd (omega (arith, past, low))
    in-bounds ih i is higher (inl empty) (inl low) =
        ap (settled rest) (turn-within (b * c.block + j) (image_of c n) i is low)
        ∙ held-zeros rest (i.own (b * c.block + j)) i.parent empty (λ p q. ih p (ap (above most c b) (sym q) ∙ higher))

    by : Below → (o : Option Image) → image_of c n ≡ o → walk (suc most) (λ m. answer_of (b * c.block + j) (image_of c m)) n ≡ zeros
    by ih None is = ap (λ o. settled rest (answer_of (b * c.block + j) o)) is ∙ ap (settled rest) (none-here (b * c.block + j))
    by ih (Some i) is =
        let parts = either (has_block c.block n i.size i.slots b) (above most c b i.parent) (ap (there-next most c n b) (sym is) ∙ none) in
        in-bounds ih i is parts.1 (without c n i b j is part within parts.0) (cases_lt (b * c.block + j) i.size)

-- so a sector of a block that is in no image of a chain
pub zeros-read : (c : Content) (n : Name) (b j : ℕ) → j < c.block → b < c.entries → is_there chain_limit c n b ≡ false → image_reads c n (b * c.block + j) ≡ zeros
unfolding image_reads
zeros-read c n b j part within none = not-there chain_limit c n b j part within none
