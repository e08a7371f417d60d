-- Texts read in one way alone: a number, extents, a volume.
pub use Rattle.vg_meta.proofs.NumberLaws.{parts_same, number_same}
use Rattle.std.proofs.Common.{◌≡◌, ◌≢◌, ℕ, ◌<◌, ◌^◌, ◌%◌, ◌==◌, ltb, eqb, cond, not, ◌&&◌, ◌||◌, Bool, true, false, List, [], ◌∷◌, ◌++◌, length, refl, sym, ap, ap₂, ◌∙◌, arith, length-append, append_assoc}
use Rattle.std.specs.List.{flat_map, AllByRecursion}
use Rattle.std.proofs.lemmas.Bool.{true≢false, ne_eqb, lt-ltb}
use Rattle.byteorder.specs.Endian.{big_bytes}
use Rattle.sm_base.specs.declared.names.Name.{Name}
use Rattle.sm_base.specs.Kinds.{is_image, is_log, is_entry}
use Rattle.sm_base.specs.Names.{IsName, spelling}
use Rattle.sm_base.proofs.ReadLemmas.{spelling-injective}
use Rattle.vg_meta.specs.Tables.{Row, IsVolume, suits}
use Rattle.vg_meta.specs.Text.{flags_of, listed_extents, extents_by, volume_by, volume_text}
use Rattle.vg_meta.specs.declared.decoding.Unread.{Unread}
use Rattle.vg_meta.specs.declared.grammars.Grammar.{Grammar}
use Rattle.vg_meta.specs.declared.grammars.Grammar.TheVariants.{Listed, Segmented}
use Rattle.vg_meta.specs.declared.decoding.Unread.TheVariants.{Damaged, NoMemory}
use Rattle.vg_meta.specs.Unread.{IsUnread}
use Rattle.vg_meta.proofs.SegmentLaws.{none-segments}
use Rattle.vg_meta.proofs.SegmentTextLaws.{segmented_same, segments_many}
use Rattle.vg_meta.proofs.WriteLaws.{length-listed_extents}

-- extents whose number passes the bytes that there are
pub extents_cut : (bytes left : List ℕ) (count : ℕ) (taken : List ℕ) → bytes ≡ big_bytes 4 count ++ (flat_map (big_bytes 4) taken ++ left)
    → count < 2 ^ 32 → length taken < count → length left < 4
    → (es rest : List ℕ) → length es < 2 ^ 32 → bytes ≢ listed_extents es ++ rest
extents_cut bytes left count taken read fits few short es rest small e =
    let both : big_bytes 4 count ++ (flat_map (big_bytes 4) taken ++ left) ≡ big_bytes 4 (length es) ++ (flat_map (big_bytes 4) es ++ rest) =
    sym read ∙ e ∙ append_assoc (big_bytes 4 (length es)) (flat_map (big_bytes 4) es) rest in
    let same = number_same 4 count (length es) (flat_map (big_bytes 4) taken ++ left) (flat_map (big_bytes 4) es ++ rest) fits small both in
    absurd (omega (arith, same.0, ap length same.1, length-append (flat_map (big_bytes 4) taken) left, length-append (flat_map (big_bytes 4) es) rest, length-listed_extents taken, length-listed_extents es))

-- extents read in one way
numbers_same : (xs ys x y : List ℕ) → length xs ≡ length ys → AllByRecursion (λ (e : ℕ). e < 2 ^ 32) xs → AllByRecursion (λ (e : ℕ). e < 2 ^ 32) ys
    → flat_map (big_bytes 4) xs ++ x ≡ flat_map (big_bytes 4) ys ++ y → (xs ≡ ys) × (x ≡ y)
numbers_same [] [] x y long p q e = (refl, e)
numbers_same [] (b ∷ ys) x y long p q e = absurd (omega arith)
numbers_same (a ∷ xs) [] x y long p q e = absurd (omega arith)
numbers_same (a ∷ xs) (b ∷ ys) x y long p q e =
    let first = number_same 4 a b (flat_map (big_bytes 4) xs ++ x) (flat_map (big_bytes 4) ys ++ y) p.0 q.0 e in
    let rest = numbers_same xs ys x y (omega arith) p.1 q.1 first.1 in
    (ap₂ (λ (h : ℕ) (t : List ℕ). h ∷ t) first.0 rest.0, rest.1)

pub count_same : (xs ys x y : List ℕ) → length xs < 2 ^ 32 → length ys < 2 ^ 32 → listed_extents xs ++ x ≡ listed_extents ys ++ y
    → (length xs ≡ length ys) × (flat_map (big_bytes 4) xs ++ x ≡ flat_map (big_bytes 4) ys ++ y)
count_same xs ys x y few small e =
    number_same 4 (length xs) (length ys) (flat_map (big_bytes 4) xs ++ x) (flat_map (big_bytes 4) ys ++ y) few small
    (sym (append_assoc (big_bytes 4 (length xs)) (flat_map (big_bytes 4) xs) x) ∙ e ∙ append_assoc (big_bytes 4 (length ys)) (flat_map (big_bytes 4) ys) y)

pub extents_same : (xs ys x y : List ℕ) → length xs < 2 ^ 32 → length ys < 2 ^ 32 → AllByRecursion (λ (e : ℕ). e < 2 ^ 32) xs → AllByRecursion (λ (e : ℕ). e < 2 ^ 32) ys
    → listed_extents xs ++ x ≡ listed_extents ys ++ y → (xs ≡ ys) × (x ≡ y)
extents_same xs ys x y few small p q e =
    let s = count_same xs ys x y few small e in numbers_same xs ys x y s.0 p q s.1

-- and by a grammar
same_by : (g : Grammar) (xs ys x y : List ℕ) → length xs < 2 ^ 32 → length ys < 2 ^ 32 → AllByRecursion (λ (e : ℕ). e < 2 ^ 32) xs → AllByRecursion (λ (e : ℕ). e < 2 ^ 32) ys
    → extents_by g xs ++ x ≡ extents_by g ys ++ y → (xs ≡ ys) × (x ≡ y)
same_by Listed xs ys x y few small p q e = extents_same xs ys x y few small p q e
same_by Segmented xs ys x y few small p q e = segmented_same xs ys x y few small p q e

-- where there are none, that is read too
none_same : (g : Grammar) (xs ys x y : List ℕ) → length xs < 2 ^ 32 → length ys < 2 ^ 32 → extents_by g xs ++ x ≡ extents_by g ys ++ y
    → eqb (length xs) 0 ≡ eqb (length ys) 0
none_same Listed xs ys x y few small e = ap (λ n. eqb n 0) (count_same xs ys x y few small e).0
none_same Segmented xs ys x y few small e =
    sym (none-segments xs) ∙ ap (λ n. eqb n 0) (segments_many xs ys x y few small e) ∙ none-segments ys

-- marks read in one way
hidden_in : ℕ → Bool
hidden_in k = k % 2 == 1

fresh_in : ℕ → Bool
fresh_in k = ltb 1 k

hidden_back : (a b : Bool) → hidden_in (flags_of a b) ≡ a
unfolding hidden_in
hidden_back false false = refl
hidden_back true false = refl
hidden_back false true = refl
hidden_back true true = refl

fresh_back : (a b : Bool) → fresh_in (flags_of a b) ≡ b
unfolding fresh_in
fresh_back false false = refl
fresh_back true false = refl
fresh_back false true = refl
fresh_back true true = refl

pub marks_same : (a b c d : Bool) (x y : List ℕ) → flags_of a b ∷ x ≡ flags_of c d ∷ y → (a ≡ c) × (b ≡ d) × (x ≡ y)
marks_same a b c d x y e =
    let flags : flags_of a b ≡ flags_of c d = cc in
    (sym (hidden_back a b) ∙ ap hidden_in flags ∙ hidden_back c d, sym (fresh_back a b) ∙ ap fresh_in flags ∙ fresh_back c d, cc)

-- the parts of a volume
pub volume_parts : (g : Grammar) (r : Row) (rest : List ℕ) → volume_by g r ++ rest
    ≡ length (spelling r.name) ∷ spelling r.name ++ (flags_of r.hidden r.fresh ∷ (extents_by g r.extents ++ rest))
unfolding volume_by
volume_parts g r rest =
    ap (λ (l : List ℕ). length (spelling r.name) ∷ l) (append_assoc (spelling r.name) (flags_of r.hidden r.fresh ∷ extents_by g r.extents) rest)

-- a name in front of a volume is its name
pub name_part : (g : Grammar) (bytes : List ℕ) (n : Name) (behind : List ℕ) (r : Row) (rest : List ℕ) → IsName n → IsName r.name
    → bytes ≡ length (spelling n) ∷ spelling n ++ behind → bytes ≡ volume_by g r ++ rest
    → (n ≡ r.name) × (behind ≡ flags_of r.hidden r.fresh ∷ (extents_by g r.extents ++ rest))
name_part g bytes n behind r rest is_n is_r one other =
    let both : length (spelling n) ∷ spelling n ++ behind ≡ length (spelling r.name) ∷ spelling r.name ++ (flags_of r.hidden r.fresh ∷ (extents_by g r.extents ++ rest)) =
    sym one ∙ other ∙ volume_parts g r rest in
    let long : length (spelling n) ≡ length (spelling r.name) = cc in
    let tails : spelling n ++ behind ≡ spelling r.name ++ (flags_of r.hidden r.fresh ∷ (extents_by g r.extents ++ rest)) = cc in
    let s = parts_same (spelling n) behind (spelling r.name) (flags_of r.hidden r.fresh ∷ (extents_by g r.extents ++ rest)) long tails in
    (spelling-injective n r.name is_n is_r s.0, s.1)

-- no name stands there
pub no_name_by : (g : Grammar) (bytes : List ℕ) → ((n : Name) (rest : List ℕ) → IsName n → bytes ≢ length (spelling n) ∷ spelling n ++ rest)
    → (r : Row) (rest : List ℕ) → IsVolume r → length r.extents < 2 ^ 32 → bytes ≢ volume_by g r ++ rest
no_name_by g bytes none r rest v few e = none r.name (flags_of r.hidden r.fresh ∷ (extents_by g r.extents ++ rest)) v.name (e ∙ volume_parts g r rest)

-- no marks stand behind the name
pub no_marks_by : (g : Grammar) (bytes : List ℕ) (n : Name) (behind : List ℕ) → IsName n → bytes ≡ length (spelling n) ∷ spelling n ++ behind
    → ((hidden fresh : Bool) (rest : List ℕ) → behind ≢ flags_of hidden fresh ∷ rest)
    → (r : Row) (rest : List ℕ) → IsVolume r → length r.extents < 2 ^ 32 → bytes ≢ volume_by g r ++ rest
no_marks_by g bytes n behind is named none r rest v few e =
    none r.hidden r.fresh (extents_by g r.extents ++ rest) (name_part g bytes n behind r rest is v.name named e).1

-- the volume that is read is the one that stands there, up to its extents
pub record Fronts (bytes : List ℕ) (n : Name) (hidden fresh : Bool) (rest : List ℕ) : Type 0 where
  pub proper : IsName n
  pub behind : List ℕ
  pub named : bytes ≡ length (spelling n) ∷ spelling n ++ behind
  pub marked : behind ≡ flags_of hidden fresh ∷ rest

pub front_same : (g : Grammar) (bytes : List ℕ) (n : Name) (hidden fresh : Bool) (left : List ℕ) → Fronts bytes n hidden fresh left
    → (r : Row) (rest : List ℕ) → IsName r.name → bytes ≡ volume_by g r ++ rest
    → (n ≡ r.name) × (hidden ≡ r.hidden) × (fresh ≡ r.fresh) × (left ≡ extents_by g r.extents ++ rest)
front_same g bytes n hidden fresh left f r rest is e =
    let p = name_part g bytes n f.behind r rest f.proper is f.named e in
    let q = marks_same hidden fresh r.hidden r.fresh left (extents_by g r.extents ++ rest) (sym f.marked ∙ p.1) in
    (p.0, q.0, q.1, q.2)

suits_alike : (n : Name) (hidden fresh : Bool) (es fs : List ℕ) → eqb (length es) 0 ≡ eqb (length fs) 0
    → (let r : Row = record { name = n; hidden = hidden; fresh = fresh; extents = es } in
    let s : Row = record { name = n; hidden = hidden; fresh = fresh; extents = fs } in suits r ≡ suits s)
suits_alike n hidden fresh es fs none =
    ap₂ (λ (x y : Bool). cond (is_image n) x (cond (is_log n) (not hidden && x) (not hidden && (not fresh && (not (is_entry n) || y))))) (some_alike es fs none) none
  where
    some_alike : (es fs : List ℕ) → eqb (length es) 0 ≡ eqb (length fs) 0 → ltb 0 (length es) ≡ ltb 0 (length fs)
    some_alike [] [] none = refl
    some_alike [] (f ∷ fs) none = absurd (true≢false (none ∙ ne_eqb (length (f ∷ fs)) 0 (λ same. absurd (omega (arith, same)))))
    some_alike (e ∷ es) [] none = absurd (true≢false (sym none ∙ ne_eqb (length (e ∷ es)) 0 (λ same. absurd (omega (arith, same)))))
    some_alike (e ∷ es) (f ∷ fs) none = lt-ltb 0 (length (e ∷ es)) (omega arith) ∙ sym (lt-ltb 0 (length (f ∷ fs)) (omega arith))

-- the volume does not suit its kind
pub no_kind_by : (g : Grammar) (bytes : List ℕ) (n : Name) (hidden fresh : Bool) (left es after : List ℕ) → Fronts bytes n hidden fresh left
    → left ≡ extents_by g es ++ after → length es < 2 ^ 32
    → (let r : Row = record { name = n; hidden = hidden; fresh = fresh; extents = es } in suits r ≡ false)
    → (r : Row) (rest : List ℕ) → IsVolume r → length r.extents < 2 ^ 32 → bytes ≢ volume_by g r ++ rest
no_kind_by g bytes n hidden fresh left es after f listed small unfit r rest v few e =
    let s = front_same g bytes n hidden fresh left f r rest v.name e in
    let none = none_same g es r.extents after rest small few (sym listed ∙ s.3) in
    let unfit_too = rw (s.0, s.1, s.2) at unfit in
    true≢false (sym v.kind ∙ sym (suits_alike r.name r.hidden r.fresh es r.extents none) ∙ unfit_too)

-- two volumes that stand at one place are one
pub volume_same_by : (g : Grammar) (bytes : List ℕ) (a b : Row) (x y : List ℕ) → IsName a.name → IsName b.name → length a.extents < 2 ^ 32 → length b.extents < 2 ^ 32
    → AllByRecursion (λ (e : ℕ). e < 2 ^ 32) a.extents → AllByRecursion (λ (e : ℕ). e < 2 ^ 32) b.extents
    → bytes ≡ volume_by g a ++ x → bytes ≡ volume_by g b ++ y → a ≡ b
volume_same_by g bytes a b x y is_a is_b few small fit low one other =
    let f : Fronts bytes a.name a.hidden a.fresh (extents_by g a.extents ++ x) =
    record { proper = is_a; behind = flags_of a.hidden a.fresh ∷ (extents_by g a.extents ++ x); named = one ∙ volume_parts g a x; marked = refl } in
    let s = front_same g bytes a.name a.hidden a.fresh (extents_by g a.extents ++ x) f b y is_b other in
    let es = same_by g a.extents b.extents x y few small fit low s.3 in
    let name : a.name ≡ b.name = s.0 in
    let hidden : a.hidden ≡ b.hidden = s.1 in
    let fresh : a.fresh ≡ b.fresh = s.2 in
    let extents : a.extents ≡ b.extents = es.0 in
    rows_same a b name hidden fresh extents
  where
    rows_same : (a b : Row) → a.name ≡ b.name → a.hidden ≡ b.hidden → a.fresh ≡ b.fresh → a.extents ≡ b.extents → a ≡ b
    rows_same a b name hidden fresh extents = λ i. record { name = name i; hidden = hidden i; fresh = fresh i; extents = extents i }

-- the volume that was read
pub volume_read_by : (g : Grammar) (bytes : List ℕ) (n : Name) (hidden fresh : Bool) (left es after : List ℕ) → Fronts bytes n hidden fresh left → left ≡ extents_by g es ++ after
    → (let r : Row = record { name = n; hidden = hidden; fresh = fresh; extents = es } in bytes ≡ volume_by g r ++ after)
volume_read_by g bytes n hidden fresh left es after f listed =
    let r : Row = record { name = n; hidden = hidden; fresh = fresh; extents = es } in
    f.named ∙ ap (λ (l : List ℕ). length (spelling n) ∷ spelling n ++ l) (f.marked ∙ ap (λ (l : List ℕ). flags_of hidden fresh ∷ l) listed) ∙ sym (volume_parts g r after)

pub unread_from : (e : Unread) (P Q : Type 0) → (P → Q) → IsUnread e P → IsUnread e Q
unread_from Damaged P Q f p = f p
unread_from NoMemory P Q f p = tt

-- ---- the same of a text by segments

pub no_name : (bytes : List ℕ) → ((n : Name) (rest : List ℕ) → IsName n → bytes ≢ length (spelling n) ∷ spelling n ++ rest)
    → (r : Row) (rest : List ℕ) → IsVolume r → length r.extents < 2 ^ 32 → bytes ≢ volume_text r ++ rest
no_name = no_name_by Segmented

pub no_marks : (bytes : List ℕ) (n : Name) (behind : List ℕ) → IsName n → bytes ≡ length (spelling n) ∷ spelling n ++ behind
    → ((hidden fresh : Bool) (rest : List ℕ) → behind ≢ flags_of hidden fresh ∷ rest)
    → (r : Row) (rest : List ℕ) → IsVolume r → length r.extents < 2 ^ 32 → bytes ≢ volume_text r ++ rest
no_marks = no_marks_by Segmented

pub no_extents : (bytes : List ℕ) (n : Name) (hidden fresh : Bool) (left : List ℕ) → Fronts bytes n hidden fresh left
    → ((es rest : List ℕ) → length es < 2 ^ 32 → left ≢ extents_by Segmented es ++ rest)
    → (r : Row) (rest : List ℕ) → IsVolume r → length r.extents < 2 ^ 32 → bytes ≢ volume_text r ++ rest
no_extents bytes n hidden fresh left f none r rest v few e =
    none r.extents rest few (front_same Segmented bytes n hidden fresh left f r rest v.name e).3

pub no_kind : (bytes : List ℕ) (n : Name) (hidden fresh : Bool) (left es after : List ℕ) → Fronts bytes n hidden fresh left
    → left ≡ extents_by Segmented es ++ after → length es < 2 ^ 32
    → (let r : Row = record { name = n; hidden = hidden; fresh = fresh; extents = es } in suits r ≡ false)
    → (r : Row) (rest : List ℕ) → IsVolume r → length r.extents < 2 ^ 32 → bytes ≢ volume_text r ++ rest
no_kind = no_kind_by Segmented

pub volume_same : (bytes : List ℕ) (a b : Row) (x y : List ℕ) → IsName a.name → IsName b.name → length a.extents < 2 ^ 32 → length b.extents < 2 ^ 32
    → AllByRecursion (λ (e : ℕ). e < 2 ^ 32) a.extents → AllByRecursion (λ (e : ℕ). e < 2 ^ 32) b.extents
    → bytes ≡ volume_text a ++ x → bytes ≡ volume_text b ++ y → a ≡ b
volume_same = volume_same_by Segmented

pub volume_read : (bytes : List ℕ) (n : Name) (hidden fresh : Bool) (left es after : List ℕ) → Fronts bytes n hidden fresh left → left ≡ extents_by Segmented es ++ after
    → (let r : Row = record { name = n; hidden = hidden; fresh = fresh; extents = es } in bytes ≡ volume_text r ++ after)
volume_read = volume_read_by Segmented
