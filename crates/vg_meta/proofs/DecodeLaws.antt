-- A whole text, and the places at which it is damaged.
use Rattle.std.proofs.Common.{◌≡◌, ℕ, ◌-◌, ◌<◌, ◌≤◌, ◌^◌, true, eqb, List, [], ◌∷◌, ◌++◌, length, sym, ap, subst, ◌∙◌, arith, length-append, ⊎_elim}
use Rattle.std.specs.List.{flat_map, list_any}
use Rattle.std.proofs.lemmas.Bool.{eqb-true, or_cases}
use Rattle.std.proofs.lemmas.List.{append-nil}
use Rattle.std.proofs.lemmas.Map.Steps.{length-le_from_distinct_below}
use Rattle.byteorder.specs.Endian.{big_bytes}
use Rattle.vg_meta.specs.Tables.{Row, extents_in, AreVolumes}
use Rattle.vg_meta.specs.Text.{volume_by}
use Rattle.vg_meta.specs.declared.grammars.Grammar.{Grammar}
use Rattle.vg_meta.specs.Reading.{SpellsBy, IsDamagedBy, no_sequence, no_volume, bytes_follow}
use Rattle.vg_meta.specs.Stopped.{IsCut}
use Rattle.vg_meta.proofs.ExtentLaws.{times, times-first}
use Rattle.vg_meta.proofs.ChangeLaws.{once_from}
use Rattle.vg_meta.proofs.ReadLaws.{number_same}
use Rattle.vg_meta.proofs.WriteLaws.{text-parts}

-- ---- how many extents a table has

pub any_times : (e : ℕ) (xs : List ℕ) → list_any (eqb e) xs ≡ true → 0 < times e xs
unfolding times
any_times e [] h = absurd cc
any_times e (x ∷ xs) h =
    ⊎_elim (λ here. times-first e x xs (sym (eqb-true e x here))) (λ there. omega (arith, any_times e xs there)) (or_cases (eqb e x) (list_any (eqb e) xs) h)

-- no more than can be counted
pub used-le : (count : ℕ) (rs : List Row) → AreVolumes count rs → length (extents_in rs) ≤ count
used-le count rs v =
    length-le_from_distinct_below (extents_in rs) count v.distinct (λ e there. (once_from count rs v).below e (any_times e (extents_in rs) there))

-- ---- places

pub damaged_first : {g : Grammar} (count : ℕ) (bytes : List ℕ) → length bytes < 8 → IsDamagedBy g count bytes 0
damaged_first {g = g} count bytes short =
    no_sequence (λ s rest small e. absurd (omega (arith, ap length e, length-append (big_bytes 8 s) rest)))

pub damaged_sequence : {g : Grammar} (count : ℕ) (bytes : List ℕ) (s : ℕ) (rest : List ℕ) → bytes ≡ big_bytes 8 s ++ rest → s < 2 ^ 64 → 2 ^ 48 ≤ s → IsDamagedBy g count bytes 0
damaged_sequence {g = g} count bytes s rest read fits large =
    no_sequence (λ t more small e. let same = number_same 8 s t rest more fits (omega arith) (sym read ∙ e) in absurd (omega (arith, same.0)))

joined : (s n : ℕ) (bytes rest behind tail : List ℕ) → bytes ≡ big_bytes 8 s ++ rest → rest ≡ big_bytes 4 n ++ behind → behind ≡ tail
    → bytes ≡ big_bytes 8 s ++ (big_bytes 4 n ++ tail)
joined s n bytes rest behind tail a b c = a ∙ ap (λ (l : List ℕ). big_bytes 8 s ++ l) (b ∙ ap (λ (l : List ℕ). big_bytes 4 n ++ l) c)

pub damaged_volume : {g : Grammar} (count s n left : ℕ) (bytes rest behind : List ℕ) → bytes ≡ big_bytes 8 s ++ rest → rest ≡ big_bytes 4 n ++ behind → s < 2 ^ 48 → n < 2 ^ 32
    → IsCut g count n behind left → IsDamagedBy g count bytes (length bytes - left)
damaged_volume {g = g} count s n left bytes rest behind a b small few cut =
    subst (λ (k : ℕ). IsDamagedBy g count bytes (length bytes - k)) (sym cut.rest_length)
    (no_volume s n cut.front cut.rest (record {
      spelled = joined s n bytes rest behind (flat_map (volume_by g) cut.front ++ cut.rest) a b cut.spelled;
      sequence_fits = small;
      number_fits = few;
      volumes = cut.volumes;
    }) cut.fewer cut.none)

pub damaged_end : {g : Grammar} (count s n : ℕ) (bytes rest behind left : List ℕ) (rs : List Row) → bytes ≡ big_bytes 8 s ++ rest → rest ≡ big_bytes 4 n ++ behind → s < 2 ^ 48 → n < 2 ^ 32
    → behind ≡ flat_map (volume_by g) rs ++ left → AreVolumes count rs → length rs ≡ n → 0 < length left → IsDamagedBy g count bytes (length bytes - length left)
damaged_end {g = g} count s n bytes rest behind left rs a b small few read v many some =
    bytes_follow s n rs left (record {
      spelled = joined s n bytes rest behind (flat_map (volume_by g) rs ++ left) a b read;
      sequence_fits = small;
      number_fits = few;
      volumes = v;
    }) many (λ e. absurd (omega (arith, ap length e)))

-- ---- the whole

pub spells_whole : {g : Grammar} (count s n : ℕ) (bytes rest behind left : List ℕ) (rs : List Row) → bytes ≡ big_bytes 8 s ++ rest → rest ≡ big_bytes 4 n ++ behind → s < 2 ^ 48 → n < 2 ^ 32
    → count < 2 ^ 32 → behind ≡ flat_map (volume_by g) rs ++ left → AreVolumes count rs → length rs ≡ n → left ≡ [] → SpellsBy g count bytes (record { sequence = s; volumes = rs })
spells_whole {g = g} count s n bytes rest behind left rs a b small few low read v many none = record {
  spelled = joined s n bytes rest behind (flat_map (volume_by g) rs) a b (read ∙ ap (λ (l : List ℕ). flat_map (volume_by g) rs ++ l) none ∙ append-nil (flat_map (volume_by g) rs))
      ∙ ap (λ (k : ℕ). big_bytes 8 s ++ (big_bytes 4 k ++ flat_map (volume_by g) rs)) (sym many)
      ∙ sym (text-parts g (record { sequence = s; volumes = rs }));
  table = record { sequence = small; volumes = v };
  fits = record { volumes = omega (arith, many); extents = omega (arith, used-le count rs v) };
}
