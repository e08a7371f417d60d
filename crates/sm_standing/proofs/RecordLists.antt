-- The records of a content, where a record sector more is taken.
use Rattle.std.proofs.Common.{◌≡◌, ◌≢◌, ℕ, zero, suc, ◌+◌, ◌<◌, ◌≤◌, ◌⊎◌, inl, inr, Bool, true, false, cond, List, [], ◌∷◌, Option, Some, None, refl, sym, ap, ◌∙◌, subst, arith}
use Rattle.std.specs.List.{filter, find, filter_map, cons_option}
use Rattle.std.proofs.lemmas.Bool.{cases_lt}
use Rattle.common_laws.specs.Lists.{In, numbers}
use Rattle.common_laws.proofs.Lists.{In-numbers, numbers-In, filter-In}
use Rattle.sm_standing.proofs.Orders.{filter_map-In}
use Rattle.sm_record.specs.declared.records.Record.{Record}
use Rattle.sm_standing.specs.Contents.{Content, reading_at, record_count, records, taken, is_record_of, record_of}
use Rattle.sm_standing.specs.Readings.{SameReadings, OneReading}

-- the first element of a list
abbrev pub first_of : {A : Type 0} → List A → Option A
first_of [] = None
first_of (x ∷ xs) = Some x

find_step : {A : Type 0} (b : Bool) (x : A) (o : Option A) (rest : List A) → o ≡ first_of rest → cond b (Some x) o ≡ first_of (cond b (x ∷ rest) rest)
find_step true x o rest h = refl
find_step false x o rest h = h

-- what is found is the first of what passes
pub find_first : {A : Type 0} (test : A → Bool) (xs : List A) → find test xs ≡ first_of (filter test xs)
find_first test [] = refl
find_first test (x ∷ xs) = find_step (test x) x (find test xs) (filter test xs) (find_first test xs)

-- a record that does not pass may stand there or not
pushed_alike : (test : Record → Bool) (f g : Option Record) (r : Record) (rest more : List Record) → (g ≡ f) ⊎ ((f ≡ None) × (g ≡ Some r) × (test r ≡ false))
    → filter test more ≡ filter test rest → filter test (cons_option g more) ≡ filter test (cons_option f rest)
pushed_alike test f g r rest more (inl same) h = ap (λ o. filter test (cons_option o more)) same ∙ of_some f h
  where
    of_some : (o : Option Record) → filter test more ≡ filter test rest → filter test (cons_option o more) ≡ filter test (cons_option o rest)
    of_some None h = h
    of_some (Some x) h = ap (λ ys. cond (test x) (x ∷ ys) ys) h
pushed_alike test f g r rest more (inr w) h =
    ap (λ o. filter test (cons_option o more)) w.1 ∙ ap (λ b. cond b (r ∷ filter test more) (filter test more)) w.2 ∙ h
    ∙ ap (λ o. filter test (cons_option o rest)) (sym w.0)

pub filter_alike : (test : Record → Bool) (f g : ℕ → Option Record) (r : Record) (ks : List ℕ)
    → ((k : ℕ) → In k ks → (g k ≡ f k) ⊎ ((f k ≡ None) × (g k ≡ Some r) × (test r ≡ false)))
    → filter test (filter_map g ks) ≡ filter test (filter_map f ks)
filter_alike test f g r [] each = refl
filter_alike test f g r (k ∷ ks) each =
    pushed_alike test (f k) (g k) r (filter_map f ks) (filter_map g ks) (each k (inl refl)) (filter_alike test f g r ks (λ j h. each j (inr h)))

none_passes : (test : Record → Bool) (o : Option Record) (rest : List Record) → ((r : Record) → o ≡ Some r → test r ≡ false) → filter test (cons_option o rest) ≡ filter test rest
none_passes test None rest h = refl
none_passes test (Some r) rest h = ap (λ b. cond b (r ∷ filter test rest) (filter test rest)) (h r refl)

-- where no record passes, none is left
pub filter_none : (test : Record → Bool) (f : ℕ → Option Record) (ks : List ℕ) → ((k : ℕ) (r : Record) → In k ks → f k ≡ Some r → test r ≡ false) → filter test (filter_map f ks) ≡ []
filter_none test f [] none = refl
filter_none test f (k ∷ ks) none = none_passes test (f k) (filter_map f ks) (λ r is. none k r (inl refl) is) ∙ filter_none test f ks (λ j r h is. none j r (inr h) is)

one-step : (test : Record → Bool) (f : ℕ → Option Record) (r : Record) (place a n : ℕ) → test r ≡ true
    → f place ≡ Some r → ((k : ℕ) (s : Record) → a ≤ k → k < a + suc n → k ≢ place → f k ≡ Some s → test s ≡ false)
    → a ≤ place → place < a + suc n → (a < place) ⊎ (place ≤ a)
    → (a < place → filter test (filter_map f (numbers (a + 1) n)) ≡ r ∷ [])
    → filter test (cons_option (f a) (filter_map f (numbers (a + 1) n))) ≡ r ∷ []
one-step test f r place a n passes is none from below (inl before) rest =
    none_passes test (f a) (filter_map f (numbers (a + 1) n)) (λ s h. none a s (omega arith) (omega arith) (λ e. omega (arith, e)) h) ∙ rest before
one-step test f r place a n passes is none from below (inr at) rest =
    let here : a ≡ place = omega arith in
    ap (λ o. filter test (cons_option o (filter_map f (numbers (a + 1) n)))) (ap f here ∙ is)
    ∙ ap (λ b. cond b (r ∷ filter test (filter_map f (numbers (a + 1) n))) (filter test (filter_map f (numbers (a + 1) n)))) passes
    ∙ ap (λ (xs : List Record). r ∷ xs) (filter_none test f (numbers (a + 1) n) (λ k s h e. let w = In-numbers (a + 1) n k h in none k s (omega arith) (omega arith) (λ q. omega (arith, q)) e))

-- where one place alone has a record that passes, that record is left
pub filter_one : (test : Record → Bool) (f : ℕ → Option Record) (r : Record) (place a n : ℕ) → test r ≡ true
    → f place ≡ Some r → ((k : ℕ) (s : Record) → a ≤ k → k < a + n → k ≢ place → f k ≡ Some s → test s ≡ false)
    → a ≤ place → place < a + n → filter test (filter_map f (numbers a n)) ≡ r ∷ []
unfolding numbers
filter_one test f r place a zero passes is none from below = absurd (omega arith)
filter_one test f r place a (suc n) passes is none from below =
    one-step test f r place a n passes is none from below (cases_lt a place)
    (λ before. filter_one test f r place (a + 1) n passes is (λ k s lo hi. none k s (omega arith) (omega arith)) (omega arith) (omega arith))

-- ---- a record more

abbrev taken_at : Content → ℕ → Option Record
taken_at c k = taken (reading_at c k)

alike_at : (a b : Content) (place : ℕ) (entry : Record) (v : List ℕ) → OneReading a b place entry → is_record_of v entry ≡ false → (k : ℕ) → k < record_count
    → (k < place) ⊎ (place ≤ k) → (place < k) ⊎ (k ≤ place)
    → (taken_at b k ≡ taken_at a k) ⊎ ((taken_at a k ≡ None) × (taken_at b k ≡ Some entry) × (is_record_of v entry ≡ false))
alike_at a b place entry v one not_it k below (inl before) y = inl (ap taken (one.others k below (λ e. omega (arith, e))))
alike_at a b place entry v one not_it k below (inr x) (inl after) = inl (ap taken (one.others k below (λ e. omega (arith, e))))
alike_at a b place entry v one not_it k below (inr x) (inr y) =
    let here : k ≡ place = omega arith in
    inr (ap (taken_at a) here ∙ ap taken one.free, ap (taken_at b) here ∙ ap taken one.taken, not_it)

-- a record more changes nothing for another UUID
pub records_alike : (a b : Content) (place : ℕ) (entry : Record) (v : List ℕ) → OneReading a b place entry → is_record_of v entry ≡ false
    → filter (is_record_of v) (records b) ≡ filter (is_record_of v) (records a)
unfolding records
records_alike a b place entry v one not_it =
    filter_alike (is_record_of v) (taken_at a) (taken_at b) entry (numbers 0 record_count)
    (λ k h. alike_at a b place entry v one not_it k (In-numbers 0 record_count k h).1 (cases_lt k place) (cases_lt place k))

-- and where nothing changed, nothing did
pub records_same : (a b : Content) (v : List ℕ) → SameReadings a b → filter (is_record_of v) (records b) ≡ filter (is_record_of v) (records a)
unfolding records
records_same a b v same =
    filter_alike (is_record_of v) (taken_at a) (taken_at b) none_such (numbers 0 record_count) (λ k h. inl (ap taken (same k (In-numbers 0 record_count k h).1)))
  where
    none_such : Record
    none_such = record { uuid = []; label = []; origin = None; read_only = false }

taken_other : (a b : Content) (place : ℕ) (entry : Record) (v : List ℕ) → OneReading a b place entry → filter (is_record_of v) (records a) ≡ []
    → (k : ℕ) (s : Record) → k < record_count → k ≢ place → taken_at b k ≡ Some s → is_record_of v s ≡ false
unfolding records
taken_other a b place entry v one none k s below other is = not_left (is_record_of v s) refl
  where
    there : taken_at a k ≡ Some s
    there = ap taken (sym (one.others k below other)) ∙ is

    not_left : (t : Bool) → is_record_of v s ≡ t → is_record_of v s ≡ false
    not_left true passes = absurd (subst (In s) none (filter-In (is_record_of v) (filter_map (taken_at a) (numbers 0 record_count)) s
        (filter_map-In (taken_at a) (numbers 0 record_count) k s (numbers-In 0 record_count k (omega arith) (omega arith)) there) passes))
    not_left false passes = passes

-- the record is the only one of its UUID, where there was none
pub records_one : (a b : Content) (place : ℕ) (entry : Record) (v : List ℕ) → OneReading a b place entry → is_record_of v entry ≡ true
    → filter (is_record_of v) (records a) ≡ [] → filter (is_record_of v) (records b) ≡ entry ∷ []
unfolding records
records_one a b place entry v one is none =
    filter_one (is_record_of v) (taken_at b) entry place 0 record_count is (ap taken one.taken)
    (λ k s lo hi other there. taken_other a b place entry v one none k s (omega arith) other there) (omega arith) one.within

-- the record of a UUID is the first of those that it has
pub record_of_first : (c : Content) (v : List ℕ) → record_of c v ≡ first_of (filter (is_record_of v) (records c))
record_of_first c v = find_first (is_record_of v) (records c)
