-- What a sector decides depends on the sectors up to it alone.
use Rattle.std.proofs.Common.{◌≡◌, ⊎_elim, ℕ, zero, suc, ◌+◌, ◌-◌, ◌*◌, ◌/◌, ◌%◌, ◌<◌, ◌≤◌, Bool, true, false, not, ◌&&◌, List, [], ◌∷◌, ◌++◌, length, Option, Some, None, refl, sym, ap, ◌∙◌, arith}
use Rattle.std.specs.Prelude.{min, nat_lt, nat_le, ◌==◌, ◌||◌, is_some, if◌then◌else◌}
use Rattle.std.specs.List.{find}
use Rattle.std.specs.Option.{option_map_or}
use Rattle.std.specs.Result.{result_ok}
use Rattle.std.proofs.Math.ListN.{get_or-append}
use Rattle.std.proofs.lemmas.Bool.{and_parts, cases_lt}
use Rattle.std.proofs.lemmas.Bool.Decides.{nat_tests}
use Rattle.common_laws.specs.Lists.{first_some, given, numbers, ◌>>=◌}
use Rattle.common_laws.proofs.Lists.{In-numbers, find-some}
use Rattle.vhd_fields.specs.declared.footers.Footer.{Footer}
use Rattle.vhd_fields.specs.declared.headers.Header.{Header}
use Rattle.vhd_fields.specs.Footers.{footer_read}
use Rattle.vhd_fields.specs.Headers.{header_read}
use Rattle.vhd_layout.specs.Readings.{some_below}
use Rattle.vhd_map.specs.Bitmaps.{is_set}
use Rattle.vhd_map.specs.Places.{blank, word}
use Rattle.vhd_stream.specs.Files.{File, FileLayout, entry, layout_of, sector_at, table_end}
use Rattle.sm_base.specs.declared.refusals.Refusal.{Refusal}
use Rattle.sm_base.specs.declared.refusals.Refusal.TheVariants.{BadFile, BadSize, Differencing}
use Rattle.vhd_import.specs.Heads.{any_header, exceeds, footer_at, header_at, is_dynamic, is_kind, lacks_entries, layout_at, size_at, without_parent}
use Rattle.vhd_import.specs.Laws.{AgreeUpTo}
use Rattle.vhd_import.specs.Puts.{Put, block_put, dynamic_put, fixed_put, has_sector, put_at}
use Rattle.vhd_import.specs.Room.{Target, block_of, distinct_blocks, extents_for, filled_at, is_too_large, lacks, lacks_space, used}
use Rattle.vhd_import.specs.Tables.{is_entry_wrong, is_named, is_table_wrong}
use Rattle.vhd_import.specs.Verdicts.{denial_at, dynamic_denials, fixed_denials, read_up_to, wrong_table}
use Rattle.vhd_import.proofs.HeadLaws.{begin-behind, end-behind, entry-within, headed}
use Rattle.vhd_import.proofs.TestLaws.{filter_map-same, find-same, some_below-same}

same_cons : {A : Type 0} (a b : A) (xs ys : List A) → a ≡ b → xs ≡ ys → (a ∷ xs) ≡ (b ∷ ys)
same_cons a b xs ys h k = ap (λ x. x ∷ xs) h ∙ ap (λ zs. b ∷ zs) k

-- ---- sectors in front of the table

pub early-put : (file : File) (j : ℕ) → j < 4 → (layout_at file >>= (λ f. dynamic_put f file j)) ≡ None
unfolding dynamic_put
early-put file j early = by (layout_at file) refl
  where
    by : (o : Option FileLayout) → layout_at file ≡ o → (o >>= (λ f. dynamic_put f file j)) ≡ None
    by None is = refl
    by (Some f) is =
        let end = end-behind file f is in
        let e : nat_le (table_end f) j ≡ false = grind (arith, nat_tests) in
        rw e refl

pub early-table : (file : File) (k : ℕ) → k < 3 → option_map_or (wrong_table file k) (layout_at file) None ≡ None
unfolding some_below
early-table file k early = by (layout_at file) refl
  where
    by : (o : Option FileLayout) → layout_at file ≡ o → option_map_or (wrong_table file k) o None ≡ None
    by None is = refl
    by (Some f) is =
        let behind = begin-behind file f is in
        let none : min f.blocks (128 * (k + 1 - f.table)) ≡ 0 = omega (arith, behind, early) in
        rw none refl

-- a test that is asked once sector 2 was read
from-two : (k : ℕ) (a b : Bool) → (2 ≤ k → a ≡ b) → ((k == 2) && a) ≡ ((k == 2) && b)
from-two k a b same =
    ⊎_elim (λ (low : k < 2). let e : (k == 2) ≡ false = grind (arith, nat_tests) in rw e refl) (λ far. ap (λ c. (k == 2) && c) (same far)) (cases_lt k 2)

module _ (k : ℕ) (x y : File) (agree : AgreeUpTo k x y) where
  -- ---- heads

  same-footer : footer_at x 0 ≡ footer_at y 0
  unfolding footer_at
  same-footer = ap (λ s. result_ok (footer_read s)) (agree 0 (omega arith))

  pub same-kind : (kind : ℕ) → is_kind kind (footer_at x 0) ≡ is_kind kind (footer_at y 0)
  same-kind kind = ap (is_kind kind) same-footer

  pub same-size : size_at x ≡ size_at y
  unfolding size_at
  same-size = ap (λ (o : Option Footer). option_map_or (λ f. f.current / 512) o 0) same-footer

  same-any : 2 ≤ k → any_header x ≡ any_header y
  same-any far =
      ap (λ s. result_ok (header_read (s ++ sector_at x 2))) (agree 1 (omega (arith, far))) ∙ ap (λ s. result_ok (header_read (sector_at y 1 ++ s))) (agree 2 far)

  same-header : 2 ≤ k → header_at x ≡ header_at y
  unfolding header_at
  same-header far = ap (λ (o : Option Header). o >>= without_parent) (same-any far)

  same-exceeds : 2 ≤ k → lacks_entries x ≡ lacks_entries y
  unfolding lacks_entries
  same-exceeds far =
      ap (λ (o : Option Footer). option_map_or (λ f. option_map_or (exceeds f) (any_header x) false) o false) same-footer
      ∙ ap (λ (o : Option Header). option_map_or (λ f. option_map_or (exceeds f) o false) (footer_at y 0) false) (same-any far)

  pub same-layout : 2 ≤ k → layout_at x ≡ layout_at y
  unfolding layout_at
  same-layout far =
      let ends : Footer → Header → Option FileLayout = λ a h. given (nat_le (layout_of a h).blocks h.entries) (layout_of a h) in
      ap (λ (o : Option Footer). o >>= (λ a. header_at x >>= ends a)) same-footer
      ∙ ap (λ (o : Option Header). footer_at y 0 >>= (λ a. o >>= ends a)) (same-header far)

  -- ---- entries

  same-read : (f : FileLayout) (b : ℕ) → f.table + b / 128 ≤ k → entry f x b ≡ entry f y b
  unfolding entry
  same-read f b within = ap (λ s. word s (b % 128)) (agree (f.table + b / 128) within)

  pub same-entry : (f : FileLayout) (b : ℕ) → b < f.entries → table_end f ≤ k + 1 → entry f x b ≡ entry f y b
  same-entry f b below end = same-read f b (omega (arith, entry-within f b below, end))

  same-wrong : (f : FileLayout) (b : ℕ) → f.table + b / 128 ≤ k → is_entry_wrong f x b ≡ is_entry_wrong f y b
  unfolding is_entry_wrong
  same-wrong f b within =
      let clash : ℕ → ℕ → Bool = λ d e. not (d == blank) && (nat_lt e (d + (1 + f.block)) && nat_lt d (e + (1 + f.block))) in
      ap (λ e. not (e == blank) && (nat_lt e (table_end f) || some_below (λ c. clash (entry f x c) e) b)) (same-read f b within)
      ∙ ap (λ s. not (entry f y b == blank) && (nat_lt (entry f y b) (table_end f) || s))
      (some_below-same (λ c. clash (entry f x c) (entry f y b)) (λ c. clash (entry f y c) (entry f y b)) b (λ c less. ap (λ d. clash d (entry f y b)) (same-read f c (omega (arith, less, within)))))

  pub same-table : (f : FileLayout) → f.blocks ≤ 128 * (k + 1 - f.table) → is_table_wrong f x ≡ is_table_wrong f y
  same-table f read = some_below-same (is_entry_wrong f x) (is_entry_wrong f y) f.blocks (λ b less. same-wrong f b (omega (arith, less, read)))

  -- ---- puts

  same-has : (f : FileLayout) (j b : ℕ) → b < f.entries → table_end f ≤ k + 1 → has_sector f x j b ≡ has_sector f y j b
  same-has f j b below end = ap (λ e. not (e == blank) && (nat_lt e j && nat_le j (e + f.block))) (same-entry f b below end)

  same-block_put : (f : FileLayout) (j b : ℕ) → j ≤ k → b < f.entries → table_end f ≤ k + 1 → has_sector f y j b ≡ true → block_put f x j b ≡ block_put f y j b
  same-block_put f j b within below end has =
      let n = and_parts (is_named f y b) _ has in
      let l = and_parts (nat_lt (entry f y b) j) _ n.1 in
      let low : entry f y b < j = let t = l.0 in grind (arith, nat_tests) in
      let put : List ℕ → ℕ → ℕ → List ℕ → Option Put = λ bits e size bytes. given (is_set bits (j - e - 1) && nat_lt (b * f.block + (j - e - 1)) size) (record { sector = b * f.block + (j - e - 1); bytes = bytes }) in
      ap (λ e. put (sector_at x e) e (size_at x) (sector_at x j)) (same-entry f b below end)
      ∙ ap (λ s. put s (entry f y b) (size_at x) (sector_at x j)) (agree (entry f y b) (omega (arith, low, within)))
      ∙ ap (λ n. put (sector_at y (entry f y b)) (entry f y b) n (sector_at x j)) same-size
      ∙ ap (λ s. put (sector_at y (entry f y b)) (entry f y b) (size_at y) s) (agree j within)

  same-dynamic_put : (f : FileLayout) (j : ℕ) → f.blocks ≤ f.entries → j ≤ k → dynamic_put f x j ≡ dynamic_put f y j
  unfolding dynamic_put
  same-dynamic_put f j fits within = by (nat_le (table_end f) j) refl
    where
      found : table_end f ≤ k + 1 → (o : Option ℕ) → find (has_sector f y j) (numbers 0 f.blocks) ≡ o → (o >>= block_put f x j) ≡ (o >>= block_put f y j)
      found end None is = refl
      found end (Some b) is =
          let s = find-some (has_sector f y j) (numbers 0 f.blocks) b is in
          let n = In-numbers 0 f.blocks b s.0 in
          same-block_put f j b within (omega (arith, n.1, fits)) end s.1

      searched : table_end f ≤ k + 1 → (find (has_sector f x j) (numbers 0 f.blocks) >>= block_put f x j) ≡ (find (has_sector f y j) (numbers 0 f.blocks) >>= block_put f y j)
      searched end =
          ap (λ (o : Option ℕ). o >>= block_put f x j) (find-same (has_sector f x j) (has_sector f y j) (numbers 0 f.blocks) (λ b i. let n = In-numbers 0 f.blocks b i in same-has f j b (omega (arith, n.1, fits)) end))
          ∙ found end (find (has_sector f y j) (numbers 0 f.blocks)) refl

      by : (t : Bool) → nat_le (table_end f) j ≡ t
          → (if nat_le (table_end f) j then find (has_sector f x j) (numbers 0 f.blocks) >>= block_put f x j else None) ≡ (if nat_le (table_end f) j then find (has_sector f y j) (numbers 0 f.blocks) >>= block_put f y j else None)
      by true is = let end : table_end f ≤ k + 1 = grind (arith, nat_tests) in rw is (searched end)
      by false is = rw is refl

  same-dynamic : (j : ℕ) → j ≤ k → (layout_at x >>= (λ f. dynamic_put f x j)) ≡ (layout_at y >>= (λ f. dynamic_put f y j))
  same-dynamic j within = ⊎_elim (λ early. early-put x j early ∙ sym (early-put y j early)) far (cases_lt j 4)
    where
      by : (o : Option FileLayout) → layout_at y ≡ o → (o >>= (λ f. dynamic_put f x j)) ≡ (o >>= (λ f. dynamic_put f y j))
      by None is = refl
      by (Some f) is = same-dynamic_put f j (headed y f is).fits within

      far : 4 ≤ j → (layout_at x >>= (λ f. dynamic_put f x j)) ≡ (layout_at y >>= (λ f. dynamic_put f y j))
      far late = ap (λ (o : Option FileLayout). o >>= (λ f. dynamic_put f x j)) (same-layout (omega (arith, late, within))) ∙ by (layout_at y) refl

  same-fixed : (j : ℕ) → j ≤ k → fixed_put x j ≡ fixed_put y j
  same-fixed zero within = refl
  same-fixed (suc i) within = ap (λ s. Some (record { sector = i; bytes = s })) (agree i (omega (arith, within)))

  pub same-put : (j : ℕ) → j ≤ k → put_at x j ≡ put_at y j
  unfolding put_at
  same-put j within = ap (λ b. if b then layout_at x >>= (λ f. dynamic_put f x j) else fixed_put x j) (same-kind 3) ∙ by (is_dynamic y)
    where
      by : (b : Bool) → (if b then layout_at x >>= (λ f. dynamic_put f x j) else fixed_put x j) ≡ (if b then layout_at y >>= (λ f. dynamic_put f y j) else fixed_put y j)
      by true = same-dynamic j within
      by false = same-fixed j within

  -- ---- room

  pub same-used : (t : Target) (count : ℕ) → count ≤ k + 1 → used t x count ≡ used t y count
  unfolding used filled_at
  same-used t count within =
      ap (distinct_blocks t) (filter_map-same (filled_at t x) (filled_at t y) (numbers 0 count) (λ j i. let n = In-numbers 0 count j i in ap (λ (o : Option Put). o >>= block_of t) (same-put j (omega (arith, n.1, within)))))

  same-lacks : (t : Target) (j : ℕ) → j ≤ k → lacks_space t x j ≡ lacks_space t y j
  unfolding lacks_space
  same-lacks t zero within = refl
  same-lacks t (suc i) within =
      let room : ℕ → ℕ → Option Refusal = λ a b. lacks (extents_for t b - extents_for t a) (t.free - extents_for t a) in
      ap (λ a. room a (used t x (suc (suc i)))) (same-used t (suc i) (omega (arith, within)))
      ∙ ap (λ b. room (used t y (suc i)) b) (same-used t (suc (suc i)) (omega (arith, within)))

  -- ---- denials

  same-wrong_table : option_map_or (wrong_table x k) (layout_at x) None ≡ option_map_or (wrong_table y k) (layout_at y) None
  same-wrong_table = ⊎_elim (λ (early : k < 2). early-table x k (omega (arith, early)) ∙ sym (early-table y k (omega (arith, early)))) far (cases_lt k 2)
    where
      by : (o : Option FileLayout) → option_map_or (wrong_table x k) o None ≡ option_map_or (wrong_table y k) o None
      by None = refl
      by (Some f) = ap (λ w. given w (BadFile f.table)) (same-table (read_up_to k f) (omega arith))

      far : 2 ≤ k → option_map_or (wrong_table x k) (layout_at x) None ≡ option_map_or (wrong_table y k) (layout_at y) None
      far late = ap (λ (o : Option FileLayout). option_map_or (wrong_table x k) o None) (same-layout late) ∙ by (layout_at y)

  same-dynamic_denials : (t : Target) → dynamic_denials t x k ≡ dynamic_denials t y k
  unfolding dynamic_denials
  same-dynamic_denials t =
      let short : Bool → Option Refusal = λ b. given b (BadFile 0) in
      let headless : Bool → Option Refusal = λ b. given b (BadFile 1) in
      let large : ℕ → Option Refusal = λ n. given ((k == 0) && is_too_large t n) BadSize in
      same_cons _ _ _ _ (ap short (from-two k (lacks_entries x) (lacks_entries y) same-exceeds))
      (same_cons _ _ _ _ (ap headless (from-two k (not (is_some (layout_at x))) (not (is_some (layout_at y))) (λ far. ap (λ (o : Option FileLayout). not (is_some o)) (same-layout far))))
      (same_cons _ _ _ _ same-wrong_table
      (same_cons _ _ _ _ (ap large same-size)
      (same_cons _ _ _ _ (same-lacks t k (omega arith)) refl))))

  same-fixed_denials : (t : Target) → fixed_denials t x k ≡ fixed_denials t y k
  unfolding fixed_denials
  same-fixed_denials t =
      let differs : Bool → Option Refusal = λ b. given ((k == 0) && b) Differencing in
      same_cons _ _ _ _ (ap differs (same-kind 4)) (ap (λ (o : Option Refusal). given (is_too_large t k) BadSize ∷ o ∷ []) (same-lacks t k (omega arith)))

  pub same-denial : (t : Target) → denial_at t x k ≡ denial_at t y k
  same-denial t = ap (λ b. first_some (if b then dynamic_denials t x k else fixed_denials t x k)) (same-kind 3) ∙ by (is_dynamic y)
    where
      by : (b : Bool) → first_some (if b then dynamic_denials t x k else fixed_denials t x k) ≡ first_some (if b then dynamic_denials t y k else fixed_denials t y k)
      by true = ap first_some (same-dynamic_denials t)
      by false = ap first_some (same-fixed_denials t)

-- a file and a front of it agree up to each sector of the front
pub agree-front : (front rest : File) (k : ℕ) → k < length front → AgreeUpTo k (front ++ rest) front
agree-front front rest k within = λ j low. get_or-append front rest [] j (omega (arith, low, within))

-- no sector was read: no slot is taken
pub same-used-front : (t : Target) (front rest : File) (count : ℕ) → count ≤ length front → used t (front ++ rest) count ≡ used t front count
unfolding used numbers
same-used-front t front rest zero within = refl
same-used-front t front rest (suc k) within = same-used k (front ++ rest) front (agree-front front rest k (omega (arith, within))) t (suc k) (omega arith)
