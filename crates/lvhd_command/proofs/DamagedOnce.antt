-- A text is damaged at one place alone.
use Rattle.std.proofs.Common.{◌≡◌, ◌≢◌, ◌⊎◌, inl, inr, ℕ, ◌-◌, ◌<◌, ◌≤◌, ◌^◌, List, [], ◌∷◌, ◌++◌, length, refl, sym, ap, subst, ◌∙◌, arith, append_assoc, length-append}
use Rattle.std.specs.List.{flat_map}
use Rattle.std.proofs.lemmas.Bool.{cases_lt}
use Rattle.std.proofs.lemmas.Grind.{flat_map-append}
use Rattle.std.proofs.lemmas.List.{append-nil}
use Rattle.byteorder.specs.Endian.{big_bytes}
use Rattle.vg_meta.specs.Tables.{Row, AreVolumes, extents_in}
use Rattle.vg_meta.specs.Text.{volume_by}
use Rattle.vg_meta.specs.declared.grammars.Grammar.{Grammar}
use Rattle.vg_meta.specs.Reading.{BeginsBy, IsDamagedBy, no_sequence, no_number, no_volume, bytes_follow}
use Rattle.vg_meta.proofs.ReadLaws.{number_same}
use Rattle.lvhd_command.proofs.SoundText.{goes_on, has_places, volumes_front}

-- the volumes that stand at two places of the text are spelled by the same bytes
record Meets (grammar : Grammar) (number number' : ℕ) (front front' : List Row) (rest rest' : List ℕ) : Type 0 where
  many : number ≡ number'
  texts : flat_map (volume_by grammar) front ++ rest ≡ flat_map (volume_by grammar) front' ++ rest'

meets : (grammar : Grammar) (count : ℕ) (bytes : List ℕ) (s n s' n' : ℕ) (f f' : List Row) (r r' : List ℕ) → BeginsBy grammar count bytes s n f r → BeginsBy grammar count bytes s' n' f' r' → Meets grammar n n' f f' r r'
meets grammar count bytes s n s' n' f f' r r' b b' =
    let behind = flat_map (volume_by grammar) f ++ r in
    let behind' = flat_map (volume_by grammar) f' ++ r' in
    let first = number_same 8 s s' (big_bytes 4 n ++ behind) (big_bytes 4 n' ++ behind') (omega (arith, b.sequence_fits)) (omega (arith, b'.sequence_fits)) (sym b.spelled ∙ b'.spelled) in
    let second = number_same 4 n n' behind behind' (omega (arith, b.number_fits)) (omega (arith, b'.number_fits)) first.1 in
    record { many = second.0; texts = second.1 }

-- what follows volumes that a table begins with: nothing that is no volume, where more of them were read
abbrev NoneFollows : Grammar → ℕ → List Row → List ℕ → Type 0
NoneFollows grammar count front rest = (r : Row) (more : List ℕ) → length r.extents < 2 ^ 32 → AreVolumes count (front ++ r ∷ []) → rest ≢ volume_by grammar r ++ more

cut_there : (grammar : Grammar) (count : ℕ) (front front' : List Row) (rest rest' : List ℕ) → count < 2 ^ 32 → AreVolumes count front → AreVolumes count front' → length front < length front'
    → flat_map (volume_by grammar) front ++ rest ≡ flat_map (volume_by grammar) front' ++ rest' → NoneFollows grammar count front rest → ⊥
cut_there grammar count front front' rest rest' low v v' fewer texts none =
    let g = goes_on grammar front front' rest rest' (omega arith) (has_places count front low v) (has_places count front' low v') texts in
    go g.more g.whole g.spelled
  where
    go : (more : List Row) → front' ≡ front ++ more → rest ≡ flat_map (volume_by grammar) more ++ rest' → ⊥
    go [] whole spelled = omega (arith, ap length (whole ∙ append-nil front))
    go (r ∷ more) whole spelled =
        let split : front' ≡ (front ++ r ∷ []) ++ more = whole ∙ sym (append_assoc front (r ∷ []) more) in
        let there : AreVolumes count (front ++ r ∷ []) = volumes_front count (front ++ r ∷ []) more (subst (λ (l : List Row). AreVolumes count l) split v') in
        let few = has_places count (front ++ r ∷ []) low there in
        let long : extents_in (front ++ r ∷ []) ≡ extents_in front ++ extents_in (r ∷ []) = flat_map-append (λ (x : Row). x.extents) front (r ∷ []) in
        none r (flat_map (volume_by grammar) more ++ rest') (omega (arith, few.few, ap length long, length-append (extents_in front) (extents_in (r ∷ [])), length-append r.extents [])) there
        (spelled ∙ append_assoc (volume_by grammar r) (flat_map (volume_by grammar) more) rest')

-- as many volumes leave the same rest
same_rest : (grammar : Grammar) (count : ℕ) (front front' : List Row) (rest rest' : List ℕ) → count < 2 ^ 32 → AreVolumes count front → AreVolumes count front' → length front ≡ length front'
    → flat_map (volume_by grammar) front ++ rest ≡ flat_map (volume_by grammar) front' ++ rest' → rest ≡ rest'
same_rest grammar count front front' rest rest' low v v' as_many texts =
    let g = goes_on grammar front front' rest rest' (omega arith) (has_places count front low v) (has_places count front' low v') texts in
    go g.more g.whole g.spelled
  where
    go : (more : List Row) → front' ≡ front ++ more → rest ≡ flat_map (volume_by grammar) more ++ rest' → rest ≡ rest'
    go [] whole spelled = spelled
    go (r ∷ more) whole spelled = absurd (omega (arith, ap length whole, length-append front (r ∷ more)))

same_place : (bytes rest rest' : List ℕ) → rest ≡ rest' → length bytes - length rest ≡ length bytes - length rest'
same_place bytes rest rest' same = ap (λ (l : List ℕ). length bytes - length l) same

-- where the number of volumes stands, it is not cut off
number_there : (grammar : Grammar) (count : ℕ) (bytes rest : List ℕ) (s s' n : ℕ) (f : List Row) (r : List ℕ) → s < 2 ^ 48 → bytes ≡ big_bytes 8 s ++ rest → length rest < 4 → BeginsBy grammar count bytes s' n f r → ⊥
number_there grammar count bytes rest s s' n f r fits spelled short b =
    let behind = flat_map (volume_by grammar) f ++ r in
    let same = number_same 8 s s' rest (big_bytes 4 n ++ behind) (omega (arith, fits)) (omega (arith, b.sequence_fits)) (sym spelled ∙ b.spelled) in
    omega (arith, ap length same.1, length-append (big_bytes 4 n) behind, short)

-- the next volume is cut off at two places: they are one
cut_once : (grammar : Grammar) (count : ℕ) (bytes : List ℕ) (s n s' n' : ℕ) (f f' : List Row) (r r' : List ℕ) → count < 2 ^ 32 → BeginsBy grammar count bytes s n f r → BeginsBy grammar count bytes s' n' f' r'
    → NoneFollows grammar count f r → NoneFollows grammar count f' r' → r ≡ r'
cut_once grammar count bytes s n s' n' f f' r r' low b b' none none' =
    by (cases_lt (length f) (length f')) (cases_lt (length f') (length f))
  where
    m : Meets grammar n n' f f' r r'
    m = meets grammar count bytes s n s' n' f f' r r' b b'

    by : (length f < length f') ⊎ (length f' ≤ length f) → (length f' < length f) ⊎ (length f ≤ length f') → r ≡ r'
    by (inl fewer) _ = absurd (cut_there grammar count f f' r r' low b.volumes b'.volumes fewer m.texts none)
    by (inr _) (inl fewer) = absurd (cut_there grammar count f' f r' r low b'.volumes b.volumes fewer (sym m.texts) none')
    by (inr most) (inr least) = same_rest grammar count f f' r r' low b.volumes b'.volumes (omega arith) m.texts

-- it is cut off where no volume is missing: never
cut_or_all : (grammar : Grammar) (count : ℕ) (bytes : List ℕ) (s n s' n' : ℕ) (f f' : List Row) (r r' : List ℕ) → count < 2 ^ 32 → BeginsBy grammar count bytes s n f r → BeginsBy grammar count bytes s' n' f' r'
    → length f < n → NoneFollows grammar count f r → length f' ≡ n' → ⊥
cut_or_all grammar count bytes s n s' n' f f' r r' low b b' fewer none all =
    let m = meets grammar count bytes s n s' n' f f' r r' b b' in
    cut_there grammar count f f' r r' low b.volumes b'.volumes (omega (arith, m.many)) m.texts none

all_once : (grammar : Grammar) (count : ℕ) (bytes : List ℕ) (s n s' n' : ℕ) (f f' : List Row) (r r' : List ℕ) → count < 2 ^ 32 → BeginsBy grammar count bytes s n f r → BeginsBy grammar count bytes s' n' f' r'
    → length f ≡ n → length f' ≡ n' → r ≡ r'
all_once grammar count bytes s n s' n' f f' r r' low b b' all all' =
    let m = meets grammar count bytes s n s' n' f f' r r' b b' in
    same_rest grammar count f f' r r' low b.volumes b'.volumes (all ∙ m.many ∙ sym all') m.texts

-- the first place that is damaged is one
pub damaged_once : (grammar : Grammar) (count : ℕ) (bytes : List ℕ) (p q : ℕ) → count < 2 ^ 32 → IsDamagedBy grammar count bytes p → IsDamagedBy grammar count bytes q → p ≡ q
damaged_once grammar count bytes _ _ low (no_sequence a) (no_sequence b) = refl
damaged_once grammar count bytes _ _ low (no_sequence none) (no_number s rest fits spelled short) = absurd (none s rest fits spelled)
damaged_once grammar count bytes _ _ low (no_sequence none) (no_volume s n f r b fewer cut) = absurd (none s (big_bytes 4 n ++ (flat_map (volume_by grammar) f ++ r)) b.sequence_fits b.spelled)
damaged_once grammar count bytes _ _ low (no_sequence none) (bytes_follow s n f r b all some) = absurd (none s (big_bytes 4 n ++ (flat_map (volume_by grammar) f ++ r)) b.sequence_fits b.spelled)
damaged_once grammar count bytes _ _ low (no_number s rest fits spelled short) (no_sequence none) = absurd (none s rest fits spelled)
damaged_once grammar count bytes _ _ low (no_volume s n f r b fewer cut) (no_sequence none) = absurd (none s (big_bytes 4 n ++ (flat_map (volume_by grammar) f ++ r)) b.sequence_fits b.spelled)
damaged_once grammar count bytes _ _ low (bytes_follow s n f r b all some) (no_sequence none) = absurd (none s (big_bytes 4 n ++ (flat_map (volume_by grammar) f ++ r)) b.sequence_fits b.spelled)
damaged_once grammar count bytes _ _ low (no_number s rest fits spelled short) (no_number s' rest' fits' spelled' short') = refl
damaged_once grammar count bytes _ _ low (no_number s rest fits spelled short) (no_volume s' n f r b fewer none) = absurd (number_there grammar count bytes rest s s' n f r fits spelled short b)
damaged_once grammar count bytes _ _ low (no_number s rest fits spelled short) (bytes_follow s' n f r b all some) = absurd (number_there grammar count bytes rest s s' n f r fits spelled short b)
damaged_once grammar count bytes _ _ low (no_volume s' n f r b fewer none) (no_number s rest fits spelled short) = absurd (number_there grammar count bytes rest s s' n f r fits spelled short b)
damaged_once grammar count bytes _ _ low (bytes_follow s' n f r b all some) (no_number s rest fits spelled short) = absurd (number_there grammar count bytes rest s s' n f r fits spelled short b)
damaged_once grammar count bytes _ _ low (no_volume s n f r b fewer none) (no_volume s' n' f' r' b' fewer' none') = same_place bytes r r' (cut_once grammar count bytes s n s' n' f f' r r' low b b' none none')
damaged_once grammar count bytes _ _ low (no_volume s n f r b fewer none) (bytes_follow s' n' f' r' b' all some) = absurd (cut_or_all grammar count bytes s n s' n' f f' r r' low b b' fewer none all)
damaged_once grammar count bytes _ _ low (bytes_follow s n f r b all some) (no_volume s' n' f' r' b' fewer none) = absurd (cut_or_all grammar count bytes s' n' s n f' f r' r low b' b fewer none all)
damaged_once grammar count bytes _ _ low (bytes_follow s n f r b all some) (bytes_follow s' n' f' r' b' all' some') = same_place bytes r r' (all_once grammar count bytes s n s' n' f f' r r' low b b' all all')
