-- What the reader of a text keeps while it goes from volume to volume.
use Rattle.std.proofs.Common.{◌≡◌, ◌≢◌, ◌⊎◌, inl, inr, ℕ, ◌+◌, ◌-◌, ◌<◌, ◌≤◌, ◌^◌, ◌&&◌, true, false, not, ltb, eqb, List, [], ◌∷◌, ◌++◌, length, get_or, take, drop, drop-cons, add-one, Option, Some, None, refl, sym, ap, ◌∙◌, append_assoc, arith, length-append}
use Rattle.std.specs.Cmp.Lexicographic.{slice_cmp}
use Rattle.std.specs.List.{flat_map, AllByRecursion}
use Rattle.std.specs.Ordering.{nat_cmp, is_lt}
use Rattle.std.specs.declared.cmp.Ordering.TheVariants.{Less}
use Rattle.std.proofs.lemmas.Bool.{true≢false, eqb-true, le-ltb, lt-ltb, and_left, and_right, not_from_true}
use Rattle.std.proofs.lemmas.List.{append-nil, take_all, drop_all}
use Rattle.byteorder.specs.Endian.{big_bytes}
use Rattle.sm_base.specs.declared.names.Name.{Name}
use Rattle.sm_base.specs.Names.{name_cmp, spelling}
use Rattle.sm_base.proofs.OrderLemmas.{name_cmp_total}
use Rattle.tests_reader.specs.Answers.{IsText}
use Rattle.tests_reader.specs.SoFar.{IsSoFar, rises}
use Rattle.vg_meta.specs.Tables.{Row, AreVolumes, IsVolume, extents_in, is_one_of}
use Rattle.vg_meta.specs.Reading.{IsDamagedBy, no_number}
use Rattle.vg_meta.specs.Taken.{are_new}
use Rattle.vg_meta.specs.Segments.{AreFew}
use Rattle.vg_meta.specs.Text.{volume_by}
use Rattle.vg_meta.specs.declared.grammars.Grammar.{Grammar}
use Rattle.vg_meta.proofs.ChangeLaws.{once_from}
use Rattle.vg_meta.proofs.DecodeLaws.{damaged_volume, damaged_end, spells_whole, used-le}
use Rattle.vg_meta.proofs.ExtentLaws.{All-weaken, times-append}
use Rattle.vg_meta.proofs.NameLaws.{less_from}
use Rattle.vg_meta.proofs.Places.{All-push}
use Rattle.vg_meta.proofs.FreeLaws.{all_from}
use Rattle.vg_meta.proofs.PushLaws.{next_from, read_is_next_by, volumes_push}
use Rattle.vg_meta.proofs.ReadSteps.{no_volumes}
use Rattle.vg_meta.proofs.TakenLaws.{new_once, once_new, taken}
use Rattle.vg_meta.proofs.WriteLaws.{flat_map-push}

-- ---- extents that are met one by one

-- as far as extents were met
pub record IsMet (count : ℕ) (us es met : List ℕ) (i : ℕ) : Type 0 where
  pub all : met ≡ us ++ take i es
  pub new : are_new count us es ≡ are_new count met (drop i es)

pub met_first : (count : ℕ) (us es : List ℕ) → IsMet count us es us 0
met_first count us es = record { all = sym (append-nil us); new = refl }

met_step : (count : ℕ) (met es : List ℕ) (i : ℕ) → i < length es → are_new count met (drop i es)
    ≡ (ltb (get_or es i 0) count && (not (is_one_of met (get_or es i 0)) && are_new count (met ++ get_or es i 0 ∷ []) (drop (i + 1) es)))
unfolding are_new
met_step count met es i lt = let opened : drop i es ≡ get_or es i 0 ∷ drop (i + 1) es = rw add-one (drop-cons es i 0 lt) in ap (are_new count met) opened

pub met_more : (count : ℕ) (us es met now : List ℕ) (i : ℕ) → IsMet count us es met i → i < length es → get_or es i 0 < count
    → is_one_of met (get_or es i 0) ≡ false → now ≡ met ++ get_or es i 0 ∷ [] → IsMet count us es now (i + 1)
met_more count us es met now i m lt low fresh is = record {
  all = is ∙ ap (λ (l : List ℕ). l ++ get_or es i 0 ∷ []) m.all ∙ sym (taken us es i lt);
  new = m.new ∙ met_step count met es i lt ∙ (let x = fresh in let y = lt-ltb (get_or es i 0) count low in rw (y, x) (ap (λ (l : List ℕ). are_new count l (drop (i + 1) es)) (sym is)));
}

pub met_stop : (count : ℕ) (us es met : List ℕ) (i : ℕ) → IsMet count us es met i → i < length es
    → (count ≤ get_or es i 0) ⊎ (is_one_of met (get_or es i 0) ≡ true) → are_new count us es ≡ false
met_stop count us es met i m lt (inl past) =
    m.new ∙ met_step count met es i lt ∙ and_left (ltb (get_or es i 0) count) _ (le-ltb (get_or es i 0) count past)
met_stop count us es met i m lt (inr again) =
    m.new ∙ met_step count met es i lt
    ∙ and_right (ltb (get_or es i 0) count) _ (and_left (not (is_one_of met (get_or es i 0))) _ (not_from_true _ again))

pub met_end : (count : ℕ) (us es met : List ℕ) (i : ℕ) → IsMet count us es met i → length es ≤ i → (are_new count us es ≡ true) × (met ≡ us ++ es)
unfolding are_new
met_end count us es met i m le =
    (m.new ∙ ap (are_new count met) (drop_all i es le), m.all ∙ ap (λ (l : List ℕ). us ++ l) (take_all i es le))

-- ---- volumes that are read one by one

pub so_first : (count : ℕ) → IsSoFar count [] None []
so_first count = record { volumes = no_volumes count; behind = λ n. (λ yes. tt, λ all. refl); all = refl }

All-last : {X : Type 0} (P : X → Type 0) (xs : List X) (x : X) → AllByRecursion P (xs ++ x ∷ []) → P x
All-last P [] x all = all.0
All-last P (y ∷ xs) x all = All-last P xs x all.1

before_last : (rs : List Row) (v : Row) (n : Name) → AllByRecursion (λ (r : Row). name_cmp r.name v.name ≡ Less) rs → name_cmp v.name n ≡ Less
    → AllByRecursion (λ (r : Row). name_cmp r.name n ≡ Less) (rs ++ v ∷ [])
before_last rs v n all less =
    All-push (λ (r : Row). name_cmp r.name n ≡ Less) rs v
    (All-weaken (λ (r : Row). name_cmp r.name v.name ≡ Less) (λ (r : Row). name_cmp r.name n ≡ Less) rs (λ r first. name_cmp_total.trans r.name v.name n first less) all) less

cmp_is : (spelled : List ℕ) (v : Row) (n : Name) → spelled ≡ spelling v.name → slice_cmp nat_cmp spelled (spelling n) ≡ name_cmp v.name n
unfolding name_cmp
cmp_is spelled v n is = ap (λ (l : List ℕ). slice_cmp nat_cmp l (spelling n)) is

-- the volume that stands next
pub record IsFound (g : Grammar) (count : ℕ) (bytes : List ℕ) (v : Row) (spelled after : List ℕ) : Type 0 where
  pub low : count < 2 ^ 32
  pub volume : IsVolume v
  pub few : length v.extents < 2 ^ 32
  pub fit : AllByRecursion (λ e. e < 2 ^ 32) v.extents
  pub named : spelled ≡ spelling v.name
  pub text : bytes ≡ volume_by g v ++ after

pub so_more : (g : Grammar) (count : ℕ) (bytes : List ℕ) (v : Row) (spelled after met now : List ℕ) (before : Option (List ℕ)) → IsFound g count bytes v spelled after
    → rises before spelled ≡ true → are_new count met v.extents ≡ true → now ≡ met ++ v.extents
    → (rs : List Row) → IsSoFar count rs before met → IsSoFar count (rs ++ v ∷ []) (Some spelled) now
so_more g count bytes v spelled after met now before f risen new is rs so =
    let behind : AllByRecursion (λ (r : Row). name_cmp r.name v.name ≡ Less) rs = (so.behind v.name).0 (ap (rises before) (sym f.named) ∙ risen) in
    record {
      volumes = volumes_push count rs v so.volumes f.volume behind
          (new_once count (extents_in rs) v.extents (once_from count rs so.volumes) (ap (λ (l : List ℕ). are_new count l v.extents) (sym so.all) ∙ new));
      behind = λ n. (
        λ yes. before_last rs v n behind (less_from v.name n (ap is_lt (sym (cmp_is spelled v n f.named)) ∙ yes)),
        λ all. ap is_lt (cmp_is spelled v n f.named ∙ All-last (λ (r : Row). name_cmp r.name n ≡ Less) rs v all),
      );
      all = is ∙ ap (λ (l : List ℕ). l ++ v.extents) so.all ∙ sym (flat_map-push (λ (r : Row). r.extents) rs v);
    }

-- where the name does not rise, or an extent is not new, no volume stands there
pub so_stop : (g : Grammar) (count : ℕ) (bytes : List ℕ) (v : Row) (spelled after met : List ℕ) (before : Option (List ℕ)) → IsFound g count bytes v spelled after
    → (rises before spelled ≡ false) ⊎ (are_new count met v.extents ≡ false)
    → (rs : List Row) → IsSoFar count rs before met
    → (r : Row) (rest : List ℕ) → length r.extents < 2 ^ 32 → AreVolumes count (rs ++ r ∷ []) → bytes ≢ volume_by g r ++ rest
so_stop g count bytes v spelled after met before f (inl falls) rs so r rest few vs e =
    let next = read_is_next_by g bytes count rs v after f.low f.volume f.few f.fit f.text r rest few vs e in
    true≢false (sym ((so.behind v.name).1 next.behind) ∙ ap (rises before) (sym f.named) ∙ falls)
so_stop g count bytes v spelled after met before f (inr again) rs so r rest few vs e =
    let next = read_is_next_by g bytes count rs v after f.low f.volume f.few f.fit f.text r rest few vs e in
    true≢false (sym (once_new count (extents_in rs) v.extents next.extents) ∙ ap (λ (l : List ℕ). are_new count l v.extents) (sym so.all) ∙ again)

-- the extents of one more volume are below the count, and no more than it
few_there : (count : ℕ) (rs : List Row) (r : Row) → AreVolumes count (rs ++ r ∷ []) → AreFew count count r.extents
few_there count rs r vs =
    let next = next_from count rs r vs in
    record {
      below = all_from (λ (x : ℕ). x < count) r.extents (λ x k. next.extents.below x (omega (arith, times-append x (extents_in rs) r.extents)));
      few = omega (arith, used-le count (rs ++ r ∷ []) vs, ap length (flat_map-push (λ (x : Row). x.extents) rs r), length-append (extents_in rs) r.extents);
    }

-- where no volume at all stands there, none does that goes on with those in front
pub so_none : (g : Grammar) (count : ℕ) (bytes : List ℕ) → ((r : Row) (rest : List ℕ) → IsVolume r → AreFew count count r.extents → bytes ≢ volume_by g r ++ rest)
    → (rs : List Row) (r : Row) (rest : List ℕ) → length r.extents < 2 ^ 32 → AreVolumes count (rs ++ r ∷ []) → bytes ≢ volume_by g r ++ rest
so_none g count bytes none rs r rest few vs e = none r rest (next_from count rs r vs).volume (few_there count rs r vs) e

-- ---- the whole text

-- so many volumes were read behind the two numbers
pub record IsRead (g : Grammar) (count : ℕ) (bytes rest : List ℕ) (before : Option (List ℕ)) (met : List ℕ) (i : ℕ) : Type 0 where
  pub rows : List Row
  pub so : IsSoFar count rows before met
  pub many : length rows ≡ i
  pub read : bytes ≡ flat_map (volume_by g) rows ++ rest

pub read_first : (g : Grammar) (count : ℕ) (bytes : List ℕ) → IsRead g count bytes bytes None [] 0
read_first g count bytes = record { rows = []; so = so_first count; many = refl; read = refl }

pub read_more : (g : Grammar) (count : ℕ) (bytes rest after : List ℕ) (before : Option (List ℕ)) (v : Row) (spelled met now : List ℕ) (i : ℕ) → IsRead g count bytes rest before met i
    → rest ≡ volume_by g v ++ after → ((rs : List Row) → IsSoFar count rs before met → IsSoFar count (rs ++ v ∷ []) (Some spelled) now)
    → IsRead g count bytes after (Some spelled) now (i + 1)
read_more g count bytes rest after before v spelled met now i r text more = record {
  rows = r.rows ++ v ∷ [];
  so = more r.rows r.so;
  many = omega (arith, length-append r.rows (v ∷ []), r.many);
  read = r.read ∙ ap (λ (l : List ℕ). flat_map (volume_by g) r.rows ++ l) text
      ∙ sym (append_assoc (flat_map (volume_by g) r.rows) (volume_by g v) after)
      ∙ ap (λ (l : List ℕ). l ++ after) (sym (flat_map-push (volume_by g) r.rows v));
}

-- ---- what the reader answers

pub some_left : (bytes : List ℕ) → eqb (length bytes) 0 ≡ false → 0 < length bytes
some_left [] e = absurd cc
some_left (b ∷ bytes) e = omega arith

pub none_left : (bytes : List ℕ) → eqb (length bytes) 0 ≡ true → bytes ≡ []
none_left [] e = refl
none_left (b ∷ bytes) e = absurd (let k = eqb-true (length (b ∷ bytes)) 0 e in omega (arith, k))

pub no_number_there : (g : Grammar) (count s : ℕ) (bytes rest : List ℕ) → bytes ≡ big_bytes 8 s ++ rest → s < 2 ^ 48 → length rest < 4 → IsDamagedBy g count bytes 8
no_number_there g count s bytes rest read small short = no_number s rest small read short

-- behind fewer volumes than there are told no volume stands
pub no_volume_there : (g : Grammar) (count s n : ℕ) (bytes behind volumes rest : List ℕ) (before : Option (List ℕ)) (met : List ℕ) (i : ℕ) → bytes ≡ big_bytes 8 s ++ behind
    → behind ≡ big_bytes 4 n ++ volumes → s < 2 ^ 48 → n < 2 ^ 32 → IsRead g count volumes rest before met i → i < n
    → ((rs : List Row) → IsSoFar count rs before met → (r : Row) (more : List ℕ) → length r.extents < 2 ^ 32 → AreVolumes count (rs ++ r ∷ []) → rest ≢ volume_by g r ++ more)
    → IsDamagedBy g count bytes (length bytes - length rest)
no_volume_there g count s n bytes behind volumes rest before met i a b small few r fewer none =
    damaged_volume count s n (length rest) bytes behind volumes a b small few (record {
      front = r.rows;
      rest = rest;
      spelled = r.read;
      volumes = r.so.volumes;
      fewer = omega (arith, r.many, fewer);
      none = none r.rows r.so;
      rest_length = refl;
    })

-- bytes follow the last volume
pub bytes_there : (g : Grammar) (count s n : ℕ) (bytes behind volumes rest : List ℕ) (before : Option (List ℕ)) (met : List ℕ) (i : ℕ) → bytes ≡ big_bytes 8 s ++ behind
    → behind ≡ big_bytes 4 n ++ volumes → s < 2 ^ 48 → n < 2 ^ 32 → IsRead g count volumes rest before met i → i ≡ n → 0 < length rest
    → IsDamagedBy g count bytes (length bytes - length rest)
bytes_there g count s n bytes behind volumes rest before met i a b small few r all some =
    damaged_end count s n bytes behind volumes rest r.rows a b small few r.read r.so.volumes (r.many ∙ all) some

-- the bytes are the text of a table
pub whole : (g : Grammar) (count s n : ℕ) (bytes behind volumes rest : List ℕ) (before : Option (List ℕ)) (met : List ℕ) (i : ℕ) → count < 2 ^ 32 → bytes ≡ big_bytes 8 s ++ behind
    → behind ≡ big_bytes 4 n ++ volumes → s < 2 ^ 48 → n < 2 ^ 32 → IsRead g count volumes rest before met i → i ≡ n → rest ≡ [] → IsText g count bytes
whole g count s n bytes behind volumes rest before met i low a b small few r all none = record {
  table = record { sequence = s; volumes = r.rows };
  spells = spells_whole count s n bytes behind volumes rest r.rows a b small few low r.read r.so.volumes (r.many ∙ all) none;
}
