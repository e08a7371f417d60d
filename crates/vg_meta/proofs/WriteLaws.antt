-- Texts that are written one behind the other.
pub use Rattle.common_laws.proofs.Lists.{take_next as taken}
use Rattle.std.proofs.Common.{◌≡◌, ℕ, zero, suc, ◌+◌, ◌*◌, ◌<◌, ◌≤◌, ◌^◌, List, [], ◌∷◌, ◌++◌, length, get_or, take, drop, refl, sym, ap, subst, ◌∙◌, arith, length-append, append_assoc}
use Rattle.std.specs.List.{flat_map, AllByRecursion}
use Rattle.std.proofs.lemmas.Grind.{flat_map-append}
use Rattle.std.proofs.lemmas.List.{append-nil, take-append-drop}
use Rattle.byteorder.specs.Endian.{big_bytes}
use Rattle.common_laws.proofs.Lists.{take_next}
use Rattle.sm_base.specs.Texts.{placed}
use Rattle.sm_base.proofs.TextLemmas.{placed-placed, placed-zero}
use Rattle.vg_meta.specs.Tables.{Row, VolumeTable, extents_in}
use Rattle.vg_meta.specs.Roomy.{RoomyRow, rows_alone}
use Rattle.sm_base.specs.Names.{spelling}
use Rattle.vg_meta.specs.Text.{flags_of, listed_extents, extents_by, volume_by, volume_text, text, listed_text, text_by}
use Rattle.vg_meta.specs.declared.grammars.Grammar.{Grammar}
use Rattle.vg_meta.specs.declared.grammars.Grammar.TheVariants.{Listed, Segmented}
use Rattle.vg_meta.specs.Writing.{WritesText}

-- nothing is written
pub puts_none : (at : ℕ) (old : List ℕ) → WritesText at [] old old at
unfolding placed
puts_none at old = record {
  written = sym (ap (λ (n : ℕ). take at old ++ drop n old) (omega arith) ∙ take-append-drop at old);
  behind = omega arith;
}

-- one text behind another
pub puts_then : (at middle end : ℕ) (a b old half new : List ℕ) → at ≤ length old → WritesText at a old half middle → WritesText middle b half new end
    → WritesText at (a ++ b) old new end
puts_then at middle end a b old half new within p q = record {
  written = q.written ∙ ap (λ (m : ℕ). placed m b half) p.behind ∙ ap (placed (at + length a) b) p.written ∙ placed-placed at a b old within;
  behind = omega (arith, q.behind, p.behind, length-append a b);
}

-- lists of texts
pub flat_map-push : {X : Type 0} (f : X → List ℕ) (xs : List X) (x : X) → flat_map f (xs ++ x ∷ []) ≡ flat_map f xs ++ f x
flat_map-push f [] x = append-nil (f x)
flat_map-push f (y ∷ xs) x = ap (λ (l : List ℕ). f y ++ l) (flat_map-push f xs x) ∙ sym (append_assoc (f y) (flat_map f xs) (f x))

-- a text of a list, as far as the list is written
pub puts_more : {X : Type 0} (f : X → List ℕ) (xs : List X) (i : ℕ) (x : X) (at middle end : ℕ) (old half new : List ℕ) → i < length xs → x ≡ get_or xs i x
    → at ≤ length old → WritesText at (flat_map f (take i xs)) old half middle → WritesText middle (f x) half new end
    → WritesText at (flat_map f (take (i + 1) xs)) old new end
puts_more f xs i x at middle end old half new lt is within p q =
    subst (λ (t : List ℕ). WritesText at t old new end) (sym (ap (flat_map f) (take_next xs i x lt is) ∙ flat_map-push f (take i xs) x))
    (puts_then at middle end (flat_map f (take i xs)) (f x) old half new within p q)

-- room for one more
pub room_more : {X : Type 0} (f : X → List ℕ) (xs : List X) (i : ℕ) (x : X) → i < length xs → x ≡ get_or xs i x
    → length (flat_map f (take i xs)) + length (f x) ≤ length (flat_map f xs)
room_more f [] i x lt is = absurd (omega arith)
room_more f (y ∷ xs) zero x lt is = rw is (omega (arith, length-append (f y) (flat_map f xs)))
room_more f (y ∷ xs) (suc i) x lt is =
    omega (arith, length-append (f y) (flat_map f (take i xs)), length-append (f y) (flat_map f xs), room_more f xs i x (omega arith) is)

pub whole_text : {X : Type 0} (f : X → List ℕ) (xs : List X) (i : ℕ) → length xs ≤ i → flat_map f (take i xs) ≡ flat_map f xs
whole_text f [] zero h = refl
whole_text f [] (suc i) h = refl
whole_text f (y ∷ xs) zero h = absurd (omega arith)
whole_text f (y ∷ xs) (suc i) h = ap (λ (l : List ℕ). f y ++ l) (whole_text f xs i (omega arith))

-- extents are written in two slices
pub extents_written : (es ms : List ℕ) (count at first second end : ℕ) (old one two new : List ℕ) → at ≤ length old → count ≡ length (es ++ ms)
    → WritesText at (big_bytes 4 count) old one first → WritesText first (flat_map (big_bytes 4) es) one two second → WritesText second (flat_map (big_bytes 4) ms) two new end
    → WritesText at (listed_extents (es ++ ms)) old new end
extents_written es ms count at first second end old one two new within is a b c =
    let ab = puts_then at first second (big_bytes 4 count) (flat_map (big_bytes 4) es) old one two within a b in
    let abc = puts_then at second end (big_bytes 4 count ++ flat_map (big_bytes 4) es) (flat_map (big_bytes 4) ms) old two new within ab c in
    let regroup : (big_bytes 4 count ++ flat_map (big_bytes 4) es) ++ flat_map (big_bytes 4) ms ≡ listed_extents (es ++ ms) =
    append_assoc (big_bytes 4 count) (flat_map (big_bytes 4) es) (flat_map (big_bytes 4) ms)
    ∙ ap (λ (l : List ℕ). big_bytes 4 count ++ l) (sym (flat_map-append (big_bytes 4) es ms))
    ∙ ap (λ (n : ℕ). big_bytes 4 n ++ flat_map (big_bytes 4) (es ++ ms)) is in
    subst (λ (t : List ℕ). WritesText at t old new end) regroup abc

-- volumes are written as their rows
pub flat_map-rows : (g : Grammar) (hs : List RoomyRow) → flat_map (volume_by g) (rows_alone hs) ≡ flat_map (λ (v : RoomyRow). volume_by g v.row) hs
flat_map-rows g [] = refl
flat_map-rows g (h ∷ hs) = ap (λ (l : List ℕ). volume_by g h.row ++ l) (flat_map-rows g hs)

pub length-volume_by : (g : Grammar) (r : Row) → length (volume_by g r) ≡ 2 + length (spelling r.name) + length (extents_by g r.extents)
unfolding volume_by
length-volume_by g r = omega (arith, length-append (spelling r.name) (flags_of r.hidden r.fresh ∷ extents_by g r.extents))

pub length-volume_text : (r : Row) → length (volume_text r) ≡ 2 + length (spelling r.name) + length (extents_by Segmented r.extents)
length-volume_text r = length-volume_by Segmented r

pub length-listed_extents : (es : List ℕ) → length (listed_extents es) ≡ 4 + 4 * length es
length-listed_extents es = omega (arith, numbers es)
  where
    numbers : (es : List ℕ) → length (flat_map (big_bytes 4) es) ≡ 4 * length es
    numbers [] = refl
    numbers (e ∷ es) = omega (arith, numbers es)

-- a volume is written in four parts
pub volume_written : (g : Grammar) (r : Row) (at first second third end : ℕ) (old one two three new : List ℕ) (size name flags extents : List ℕ) → at ≤ length old
    → size ≡ length (spelling r.name) ∷ [] → name ≡ spelling r.name → flags ≡ flags_of r.hidden r.fresh ∷ [] → extents ≡ extents_by g r.extents
    → WritesText at size old one first → WritesText first name one two second → WritesText second flags two three third → WritesText third extents three new end
    → WritesText at (volume_by g r) old new end
unfolding volume_by
volume_written g r at first second third end old one two three new size name flags extents within size_is name_is flags_is extents_is a b c d =
    let ab = puts_then at first second size name old one two within a b in
    let abc = puts_then at second third (size ++ name) flags old two three within ab c in
    let abcd = puts_then at third end ((size ++ name) ++ flags) extents old three new within abc d in
    let regroup : ((size ++ name) ++ flags) ++ extents ≡ size ++ (name ++ (flags ++ extents)) =
    append_assoc (size ++ name) flags extents ∙ append_assoc size name (flags ++ extents) in
    subst (λ (t : List ℕ). WritesText at t old new end) (regroup ∙ rw (size_is, name_is, flags_is, extents_is) refl) abcd

-- ---- the whole text

pub text-parts : (g : Grammar) (t : VolumeTable) → text_by g t ≡ big_bytes 8 t.sequence ++ (big_bytes 4 (length t.volumes) ++ flat_map (volume_by g) t.volumes)
unfolding text listed_text
text-parts Listed t = refl
text-parts Segmented t = refl

pub length-text_by : (g : Grammar) (t : VolumeTable) → length (text_by g t) ≡ 12 + length (flat_map (volume_by g) t.volumes)
length-text_by g t = ap length (text-parts g t) ∙ omega arith

pub length-text : (t : VolumeTable) → length (text t) ≡ 12 + length (flat_map volume_text t.volumes)
length-text t = length-text_by Segmented t

pub text_written : (g : Grammar) (t : VolumeTable) (first second end : ℕ) (old one two new : List ℕ) → WritesText 0 (big_bytes 8 t.sequence) old one first
    → WritesText first (big_bytes 4 (length t.volumes)) one two second → WritesText second (flat_map (volume_by g) t.volumes) two new end
    → WritesText 0 (text_by g t) old new end
text_written g t first second end old one two new a b c =
    let ab = puts_then 0 first second (big_bytes 8 t.sequence) (big_bytes 4 (length t.volumes)) old one two (omega arith) a b in
    subst (λ (l : List ℕ). WritesText 0 l old new end) (sym (text-parts g t))
    (puts_then 0 second end (big_bytes 8 t.sequence ++ big_bytes 4 (length t.volumes)) (flat_map (volume_by g) t.volumes) old two new (omega arith) ab c)

pub text_in_front : (t old new : List ℕ) (end : ℕ) → WritesText 0 t old new end → new ≡ t ++ drop (length t) old
text_in_front t old new end p = p.written ∙ placed-zero t old

pub length-rows : (hs : List RoomyRow) → length (rows_alone hs) ≡ length hs
length-rows [] = refl
length-rows (h ∷ hs) = omega (arith, length-rows hs)

-- few extents in all are few in each volume
pub few_each : (hs : List RoomyRow) → length (extents_in (rows_alone hs)) < 2 ^ 32 → AllByRecursion (λ (v : RoomyRow). length v.row.extents < 2 ^ 32) hs
few_each [] h = tt
few_each (v ∷ hs) h = (
  omega (arith, length-append v.row.extents (extents_in (rows_alone hs))),
  few_each hs (omega (arith, length-append v.row.extents (extents_in (rows_alone hs)))),
)
