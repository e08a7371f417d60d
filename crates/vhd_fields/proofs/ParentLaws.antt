-- A parent that is given is read, and nothing else is read.
use Rattle.std.proofs.Common.{◌≡◌, ℕ, ◌+◌, ◌-◌, ◌*◌, ◌<◌, ◌≤◌, ◌⊎◌, ◌||◌, inl, inr, Bool, true, false, List, [], ◌++◌, length, length-append, get_or, take, drop, replicate, codes, Option, Some, None, refl, sym, ap, ◌∙◌, arith}
use Rattle.std.specs.Prelude.{◌==◌, slice_index, option_and_then, option_map, if◌then◌else◌}
use Rattle.std.specs.Option.{option_or}
use Rattle.std.specs.Str.{bytes_eq}
use Rattle.std.proofs.lemmas.List.{take_at, length-take, get_or-take, length-replicate, drop-replicate}
use Rattle.std.proofs.Math.Seq.{drop-append-add}
use Rattle.std.proofs.lemmas.Grind.{same_number_lists}
use Rattle.std.proofs.lemmas.Slice.Eq.{bytes_eq-Decides}
use Rattle.uuid.specs.Text.{parsed}
use Rattle.common_laws.proofs.Bytes.{bytes_eq-same, bytes_eq-refl}
use Rattle.sm_base.specs.declared.names.Name.{Name}
use Rattle.sm_base.specs.declared.names.Name.TheVariants.{Mgt, Vhd, Raw, Old, Cbt, Clone, Inflate, Coalesce, Relink, Leaf}
use Rattle.sm_base.specs.Names.{IsUuid, IsName, spelling, uuid_text}
use Rattle.sm_base.proofs.NameLemmas.{length-spelling}
use Rattle.sm_base.proofs.TextLemmas.{length-uuid_text, parsed-uuid_text, IsUuid-from_parsed}
use Rattle.vhd_fields.specs.ParentNames.{utf16, low_bytes, parent_bytes, is_image, IsParent, ParentOf, named, parent_read}
use Rattle.vhd_fields.proofs.Utf16.{length-utf16, low_bytes-utf16, character_at}

-- ---- bytes that are compared

differ : (b : Bool) (P : Type 0) → (b ≡ true → P) → (P → ⊥) → b ≡ false
differ true P f h = absurd (h (f refl))
differ false P f h = refl

differ_at : (xs ys : List ℕ) (k : ℕ) → (get_or xs k 0 ≡ get_or ys k 0 → ⊥) → bytes_eq xs ys ≡ false
differ_at xs ys k h =
    differ (bytes_eq xs ys) (get_or xs k 0 ≡ get_or ys k 0) (λ e. ap (λ (l : List ℕ). get_or l k 0) (bytes_eq-same xs ys e)) h

-- ---- a parent that is given is read

-- the name of a kind, as the field gives it
named_again : (kind : List ℕ → Name) (at : ℕ) (front u : List ℕ) → spelling (kind u) ≡ front ++ uuid_text u → (rest : List ℕ) → drop at ((front ++ uuid_text u) ++ rest) ≡ uuid_text u ++ rest → IsUuid u → ((rest : List ℕ) → drop at ((front ++ uuid_text u) ++ rest) ≡ uuid_text u ++ rest) → named kind at (parent_bytes (Some (kind u))) ≡ Some (kind u)
unfolding parent_bytes
named_again kind at front u spelled rest gone is behind =
    let zeros : List ℕ = replicate (512 - 2 * length (spelling (kind u))) 0 in
    let field = utf16 (spelling (kind u)) ++ zeros in
    let lows : low_bytes field ≡ (front ++ uuid_text u) ++ low_bytes zeros = low_bytes-utf16 (spelling (kind u)) zeros ∙ ap (λ (l : List ℕ). l ++ low_bytes zeros) spelled in
    let text : take 36 (drop at (low_bytes field)) ≡ uuid_text u = ap (λ (l : List ℕ). take 36 (drop at l)) lows ∙ ap (take 36) (behind (low_bytes zeros)) ∙ take_at (uuid_text u) (low_bytes zeros) 36 (length-uuid_text u) in
    rw (text, ← parsed-uuid_text u is, bytes_eq-refl field) refl

-- another name of that kind does not stand there
named_not : (kind : List ℕ → Name) (field : List ℕ) (o : Option (List ℕ)) → ((u : List ℕ) → bytes_eq (parent_bytes (Some (kind u))) field ≡ false) → option_and_then (λ u. if bytes_eq (parent_bytes (Some (kind u))) field then Some (kind u) else None) o ≡ None
named_not kind field None h = refl
named_not kind field (Some u) h = rw (h u) refl

second_vhd : (u : List ℕ) → get_or (parent_bytes (Some (Vhd u))) 1 0 ≡ 86
unfolding parent_bytes utf16 spelling
second_vhd u = refl

second_raw : (u : List ℕ) → get_or (parent_bytes (Some (Raw u))) 1 0 ≡ 76
unfolding parent_bytes utf16 spelling
second_raw u = refl

second_none : get_or (parent_bytes None) 1 0 ≡ 0
unfolding parent_bytes
second_none = refl

vhd_again : (u : List ℕ) → IsUuid u → named Vhd 4 (parent_bytes (Some (Vhd u))) ≡ Some (Vhd u)
unfolding spelling
vhd_again u is = named_again Vhd 4 (codes "VHD-") u refl [] refl is (λ rest. refl)

raw_again : (u : List ℕ) → IsUuid u → named Raw 3 (parent_bytes (Some (Raw u))) ≡ Some (Raw u)
unfolding spelling
raw_again u is = named_again Raw 3 (codes "LV-") u refl [] refl is (λ rest. refl)

pub parent_again : (p : Option Name) → IsParent p → parent_read (parent_bytes p) ≡ Some p
unfolding parent_read IsParent IsName
parent_again None is = rw (bytes_eq-refl (parent_bytes None)) refl
parent_again (Some (Vhd u)) is =
    let field = parent_bytes (Some (Vhd u)) in
    let some : bytes_eq (parent_bytes None) field ≡ false = differ_at (parent_bytes None) field 1 (λ e. absurd (omega (arith, e, second_none, second_vhd u))) in
    rw (some, vhd_again u is.0) refl
parent_again (Some (Raw u)) is =
    let field = parent_bytes (Some (Raw u)) in
    let some : bytes_eq (parent_bytes None) field ≡ false = differ_at (parent_bytes None) field 1 (λ e. absurd (omega (arith, e, second_none, second_raw u))) in
    let no_vhd : named Vhd 4 field ≡ None = named_not Vhd field (parsed (take 36 (drop 4 (low_bytes field)))) (λ v. differ_at (parent_bytes (Some (Vhd v))) field 1 (λ e. absurd (omega (arith, e, second_vhd v, second_raw u)))) in
    rw (some, no_vhd, raw_again u is.0) refl
parent_again (Some Mgt) is = absurd cc
parent_again (Some (Old u)) is = absurd cc
parent_again (Some (Cbt u)) is = absurd cc
parent_again (Some (Clone disk base twin)) is = absurd cc
parent_again (Some (Inflate image extents)) is = absurd cc
parent_again (Some (Coalesce child parent)) is = absurd cc
parent_again (Some (Relink child parent)) is = absurd cc
parent_again (Some (Leaf leaf parent)) is = absurd cc

-- ---- nothing else is read

record Found (kind : List ℕ → Name) (field : List ℕ) (n : Name) : Type 0 where
  u : List ℕ
  uuid : IsUuid u
  name : n ≡ kind u
  spelled : parent_bytes (Some (kind u)) ≡ field

tested : (b : Bool) (m n : Name) → (if b then Some m else None) ≡ Some n → (b ≡ true) × (m ≡ n)
tested true m n e = (refl, cc)
tested false m n e = absurd cc

named_found_by : (kind : List ℕ → Name) (text field : List ℕ) (n : Name) (o : Option (List ℕ)) → parsed text ≡ o → option_and_then (λ u. if bytes_eq (parent_bytes (Some (kind u))) field then Some (kind u) else None) o ≡ Some n → Found kind field n
named_found_by kind text field n None is e = absurd cc
named_found_by kind text field n (Some u) is e =
    let t = tested (bytes_eq (parent_bytes (Some (kind u))) field) (kind u) n e in
    record { u = u; uuid = IsUuid-from_parsed text u is; name = sym t.1; spelled = bytes_eq-same (parent_bytes (Some (kind u))) field t.0 }

named_found : (kind : List ℕ → Name) (at : ℕ) (field : List ℕ) (n : Name) → named kind at field ≡ Some n → Found kind field n
named_found kind at field n e =
    let text = take 36 (drop at (low_bytes field)) in named_found_by kind text field n (parsed text) refl e

either : (a b : Option Name) (p : Option Name) → option_map Some (option_or a b) ≡ Some p → (n : Name) × (p ≡ Some n) × ((a ≡ Some n) ⊎ (b ≡ Some n))
either (Some n) b p e = (n, cc, inl refl)
either None (Some n) p e = (n, cc, inr refl)
either None None p e = absurd cc

zeros_or : (b : Bool) (rest : Option (Option Name)) (p : Option Name) → (if b then Some None else rest) ≡ Some p → ((b ≡ true) × (p ≡ None)) ⊎ (rest ≡ Some p)
zeros_or true rest p e = inl (refl, cc)
zeros_or false rest p e = inr e

pub parent_is : (field : List ℕ) (p : Option Name) → parent_read field ≡ Some p → ParentOf field p
unfolding parent_read IsParent IsName
parent_is field p e =
    elim (zeros_or (bytes_eq (parent_bytes None) field) (option_map Some (option_or (named Vhd 4 field) (named Raw 3 field))) p e) [
      | inl none ↦ rw none.1 (record { image = tt; spelled = sym (bytes_eq-same (parent_bytes None) field none.0) })
      | inr some ↦
          let n = either (named Vhd 4 field) (named Raw 3 field) p some in
          rw n.1 (elim n.2 [
            | inl vhd ↦ let f = named_found Vhd 4 field n.0 vhd in rw f.name (record { image = (f.uuid, refl); spelled = sym f.spelled })
            | inr raw ↦ let f = named_found Raw 3 field n.0 raw in rw f.name (record { image = (f.uuid, refl); spelled = sym f.spelled })
          ])
    ]

-- what is read of no field
none_by : (o : Option (Option Name)) → ((p : Option Name) → o ≡ Some p → ⊥) → None ≡ o
none_by None h = refl
none_by (Some p) h = absurd (h p refl)

pub not_read : (field : List ℕ) → ((p : Option Name) → IsParent p → field ≡ parent_bytes p → ⊥) → None ≡ parent_read field
not_read field h =
    none_by (parent_read field) (λ p e. let is = parent_is field p e in h p is.image is.spelled)

-- ---- the characters of a name in its field

pub length_parent : (p : Option Name) → IsParent p → length (parent_bytes p) ≡ 512
unfolding parent_bytes IsParent
length_parent None is = refl
length_parent (Some (Vhd u)) is =
    omega (arith, length-append (utf16 (spelling (Vhd u))) (replicate (512 - 2 * length (spelling (Vhd u))) 0), length-utf16 (spelling (Vhd u)), length-spelling (Vhd u), length-replicate {A = ℕ} (512 - 2 * length (spelling (Vhd u))) 0)
length_parent (Some (Raw u)) is =
    omega (arith, length-append (utf16 (spelling (Raw u))) (replicate (512 - 2 * length (spelling (Raw u))) 0), length-utf16 (spelling (Raw u)), length-spelling (Raw u), length-replicate {A = ℕ} (512 - 2 * length (spelling (Raw u))) 0)
length_parent (Some Mgt) is = absurd cc
length_parent (Some (Old u)) is = absurd cc
length_parent (Some (Cbt u)) is = absurd cc
length_parent (Some (Clone disk base twin)) is = absurd cc
length_parent (Some (Inflate image extents)) is = absurd cc
length_parent (Some (Coalesce child parent)) is = absurd cc
length_parent (Some (Relink child parent)) is = absurd cc
length_parent (Some (Leaf leaf parent)) is = absurd cc

first_is_image : List ℕ → Bool
first_is_image text = (get_or text 0 0 == 86) || (get_or text 0 0 == 76)

starts : (n : Name) → IsParent (Some n) → first_is_image (spelling n) ≡ true
unfolding first_is_image spelling IsParent
starts (Vhd u) is = refl
starts (Raw u) is = refl
starts _ is = absurd cc

never : (P : Type 0) → false ≡ true → P
never P e = absurd cc

-- what is spelled as an image is one
pub also_image : (m n : Name) → IsParent (Some n) → spelling m ≡ spelling n → is_image m ≡ true
unfolding first_is_image spelling
also_image (Vhd u) n is e = refl
also_image (Raw u) n is e = refl
also_image _ n is e = never _ (ap first_is_image e ∙ starts n is)

pub is_parent : (n : Name) → IsName n → is_image n ≡ true → IsParent (Some n)
unfolding IsParent
is_parent n is image = (is, image)

pub parent_name : (n : Name) → IsParent (Some n) → IsName n
unfolding IsParent
parent_name n is = is.0

-- the first characters of a field are those of the name that it gives
record Characters (field text : List ℕ) : Type 0 where
  long : length text ≡ 40
  each : (k : ℕ) → k < 40 → slice_index text k ≡ slice_index field (2 * k + 1)

spelled_by : (name : Name) (field text : List ℕ) (n : ℕ) → field ≡ parent_bytes (Some name) → Characters field text → n ≡ length (spelling name) → n ≤ 40 → take n text ≡ spelling name
unfolding parent_bytes
spelled_by name field text n is all long small =
    let zeros : List ℕ = replicate (512 - 2 * length (spelling name)) 0 in
    let have : length (take n text) ≡ n = omega (arith, length-take n text, all.long) in
    same_number_lists (take n text) (spelling name) (have ∙ long) (λ k within.
    let below : k < n = omega arith in
    get_or-take n text k 0 below ∙ all.each k (omega arith) ∙ ap (λ (l : List ℕ). get_or l (2 * k + 1) 0) is ∙ character_at (spelling name) zeros k (omega arith))

first_of : (name : Name) (field text : List ℕ) → field ≡ parent_bytes (Some name) → Characters field text → get_or text 0 0 ≡ get_or (parent_bytes (Some name)) 1 0
first_of name field text is all = all.each 0 (omega arith) ∙ ap (λ (l : List ℕ). get_or l 1 0) is

cut_at : (first n : ℕ) → n ≡ (if first == 86 then 40 else 39) → (first ≡ 86 → n ≡ 40) × (first ≡ 76 → n ≡ 39)
cut_at first n e = (λ is. e ∙ ap (λ (b : ℕ). if b == 86 then 40 else 39) is, λ is. e ∙ ap (λ (b : ℕ). if b == 86 then 40 else 39) is)

-- a name that begins with V has 40 characters, another 39
pub characters : (name : Name) (field text : List ℕ) (n : ℕ) → IsParent (Some name) → field ≡ parent_bytes (Some name) → length text ≡ 40 → ((k : ℕ) → k < 40 → slice_index text k ≡ slice_index field (2 * k + 1)) → n ≡ (if get_or text 0 0 == 86 then 40 else 39) → take n text ≡ spelling name
unfolding IsParent
characters (Vhd u) field text n image is long each cut =
    let all : Characters field text = record { long = long; each = each } in
    let whole : n ≡ 40 = (cut_at (get_or text 0 0) n cut).0 (first_of (Vhd u) field text is all ∙ second_vhd u) in
    spelled_by (Vhd u) field text n is all (omega (arith, length-spelling (Vhd u))) (omega arith)
characters (Raw u) field text n image is long each cut =
    let all : Characters field text = record { long = long; each = each } in
    let whole : n ≡ 39 = (cut_at (get_or text 0 0) n cut).1 (first_of (Raw u) field text is all ∙ second_raw u) in
    spelled_by (Raw u) field text n is all (omega (arith, length-spelling (Raw u))) (omega arith)
characters _ field text n image is long each cut = absurd cc

-- ---- the answers of the reader

no_bytes : (xs ys : List ℕ) → bytes_eq xs ys ≡ false → xs ≡ ys → ⊥
no_bytes xs ys e is = never ⊥ (sym e ∙ (bytes_eq-Decides xs ys).1 is)

pub zeros_read : (field : List ℕ) → bytes_eq field (replicate 512 0) ≡ true → Some None ≡ parent_read field
unfolding parent_bytes IsParent
zeros_read field e = sym (ap parent_read (bytes_eq-same field (replicate 512 0) e) ∙ parent_again None tt)

pub name_read : (name : Name) (field : List ℕ) → IsParent (Some name) → bytes_eq (parent_bytes (Some name)) field ≡ true → Some (Some name) ≡ parent_read field
name_read name field image e =
    sym (ap parent_read (sym (bytes_eq-same (parent_bytes (Some name)) field e)) ∙ parent_again (Some name) image)

pub none_read : (field : List ℕ) → bytes_eq field (replicate 512 0) ≡ false → ((name : Name) → IsParent (Some name) → field ≡ parent_bytes (Some name) → ⊥) → None ≡ parent_read field
unfolding parent_bytes
none_read field not_zeros no_name =
    not_read field (λ p image is. refuse p image is)
  where
    refuse : (p : Option Name) → IsParent p → field ≡ parent_bytes p → ⊥
    refuse None image is = no_bytes field (replicate 512 0) not_zeros is
    refuse (Some name) image is = no_name name image is

pub other_name : (name n : Name) (field : List ℕ) → bytes_eq (parent_bytes (Some name)) field ≡ false → spelling name ≡ spelling n → field ≡ parent_bytes (Some n) → ⊥
unfolding parent_bytes
other_name name n field e alike is =
    no_bytes (parent_bytes (Some name)) field e (ap (λ (s : List ℕ). utf16 s ++ replicate (512 - 2 * length s) 0) alike ∙ sym is)

-- ---- the end of the field

zeros_behind : (text : List ℕ) (rest many : ℕ) → length text + rest ≡ 448 → many - rest ≡ 64 → drop 448 (text ++ replicate many 0) ≡ replicate 64 0
zeros_behind text rest many split left =
    let zeros : List ℕ = replicate many 0 in
    let behind : drop 448 (text ++ zeros) ≡ drop rest zeros = rw (← split) (drop-append-add text zeros rest) in
    rw (behind, drop-replicate {X = ℕ} rest many 0, left) refl

zeros_at_end : (name : Name) → length (spelling name) ≤ 224 → drop 448 (parent_bytes (Some name)) ≡ replicate 64 0
unfolding parent_bytes
zeros_at_end name short =
    let long : length (utf16 (spelling name)) ≡ 2 * length (spelling name) = length-utf16 (spelling name) in
    zeros_behind (utf16 (spelling name)) (448 - 2 * length (spelling name)) (512 - 2 * length (spelling name)) (omega arith) (omega arith)

pub ends_in_zeros : (p : Option Name) → IsParent p → drop 448 (parent_bytes p) ≡ replicate 64 0
unfolding IsParent parent_bytes
ends_in_zeros None is = refl
ends_in_zeros (Some (Vhd u)) is = zeros_at_end (Vhd u) (omega (arith, length-spelling (Vhd u)))
ends_in_zeros (Some (Raw u)) is = zeros_at_end (Raw u) (omega (arith, length-spelling (Raw u)))
ends_in_zeros (Some Mgt) is = absurd cc
ends_in_zeros (Some (Old u)) is = absurd cc
ends_in_zeros (Some (Cbt u)) is = absurd cc
ends_in_zeros (Some (Clone disk base twin)) is = absurd cc
ends_in_zeros (Some (Inflate image extents)) is = absurd cc
ends_in_zeros (Some (Coalesce child parent)) is = absurd cc
ends_in_zeros (Some (Relink child parent)) is = absurd cc
ends_in_zeros (Some (Leaf leaf parent)) is = absurd cc
