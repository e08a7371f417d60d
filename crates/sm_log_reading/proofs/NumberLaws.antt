-- The numbers of logs that were read.
use Rattle.std.proofs.Common.{◌≡◌, ◌≢◌, ◌⊎◌, inl, inr, ℕ, ◌<◌, ◌==◌, ◌&&◌, ◌||◌, not, nat_le, Bool, true, false, List, [], refl, sym, ap, subst, ◌∙◌}
use Rattle.std.specs.List.{list_any}
use Rattle.std.proofs.lemmas.Bool.{eq-eqb, eqb-true, leb-false, true≢false}
use Rattle.common_laws.specs.Lists.{In}
use Rattle.common_laws.proofs.Lists.{In-insert}
use Rattle.sm_log.specs.Logs.{Log, log_before, with_log}
use Rattle.sm_standing.proofs.LogLaws.{any_at}
use Rattle.sm_log_reading.specs.Right.{AreNumbered, is_tag_wrong}

-- none of three is true
none_first : (a b d : Bool) → (a || b || d) ≡ false → a ≡ false
none_first false b d e = refl
none_first true b d e = absurd (true≢false e)

none_second : (a b d : Bool) → (a || b || d) ≡ false → b ≡ false
none_second false false d e = refl
none_second false true d e = absurd (true≢false e)
none_second true b d e = absurd (true≢false e)

none_third : (a b d : Bool) → (a || b || d) ≡ false → d ≡ false
none_third false false d e = e
none_third false true d e = absurd (true≢false e)
none_third true b d e = absurd (true≢false e)

-- no earlier log has its tag, other than 0
apart : (earlier : List Log) (l k : Log) → (not (l.tag == 0) && list_any (λ m. m.tag == l.tag) earlier) ≡ false → In k earlier → k.tag ≡ l.tag → l.tag ≢ 0 → ⊥
apart earlier l k e i same some = by (l.tag == 0) refl e
  where
    met : list_any (λ (m : Log). m.tag == l.tag) earlier ≡ true
    met = any_at (λ (m : Log). m.tag == l.tag) earlier k i (eq-eqb k.tag l.tag same)

    by : (b : Bool) → (l.tag == 0) ≡ b → (not b && list_any (λ m. m.tag == l.tag) earlier) ≡ false → ⊥
    by true is e = some (eqb-true l.tag 0 is)
    by false is e = true≢false (sym met ∙ e)

pub none_numbered : (sequence : ℕ) → AreNumbered sequence []
none_numbered sequence = record { tag = λ l i. absurd i; since = λ l i. absurd i; one_tag = λ a b i j same some. absurd i }

-- with one log more
pub more_numbered : (sequence : ℕ) (earlier : List Log) (l : Log) → AreNumbered sequence earlier → is_tag_wrong sequence earlier l ≡ false → AreNumbered sequence (with_log l earlier)
unfolding with_log
more_numbered sequence earlier l was right = record {
  tag = λ k i. below k (λ (x : Log). x.tag) tag was.tag (In-insert log_before l earlier k i);
  since = λ k i. below k (λ (x : Log). x.since) since was.since (In-insert log_before l earlier k i);
  one_tag = λ a b i j. one a b (In-insert log_before l earlier a i) (In-insert log_before l earlier b j);
}
  where
    tag : l.tag < sequence
    tag = leb-false sequence l.tag (none_first (nat_le sequence l.tag) (nat_le sequence l.since) (not (l.tag == 0) && list_any (λ k. k.tag == l.tag) earlier) right)

    since : l.since < sequence
    since = leb-false sequence l.since (none_second (nat_le sequence l.tag) (nat_le sequence l.since) (not (l.tag == 0) && list_any (λ k. k.tag == l.tag) earlier) right)

    below : (k : Log) (number : Log → ℕ) → number l < sequence → ((x : Log) → In x earlier → number x < sequence) → (k ≡ l) ⊎ In k earlier → number k < sequence
    below k number own each (inl same) = subst (λ (x : Log). number x < sequence) (sym same) own
    below k number own each (inr i) = each k i

    one : (a b : Log) → (a ≡ l) ⊎ In a earlier → (b ≡ l) ⊎ In b earlier → a.tag ≡ b.tag → a.tag ≢ 0 → a ≡ b
    one a b (inl x) (inl y) same some = x ∙ sym y
    one a b (inl x) (inr j) same some =
        let own : a.tag ≡ l.tag = ap (λ (z : Log). z.tag) x in
        absurd (apart earlier l b (none_third (nat_le sequence l.tag) (nat_le sequence l.since) (not (l.tag == 0) && list_any (λ k. k.tag == l.tag) earlier) right) j (sym same ∙ own) (λ (zero : l.tag ≡ 0). some (own ∙ zero)))
    one a b (inr i) (inl y) same some =
        let own : b.tag ≡ l.tag = ap (λ (z : Log). z.tag) y in
        absurd (apart earlier l a (none_third (nat_le sequence l.tag) (nat_le sequence l.since) (not (l.tag == 0) && list_any (λ k. k.tag == l.tag) earlier) right) i (same ∙ own) (λ (zero : l.tag ≡ 0). some (same ∙ own ∙ zero)))
    one a b (inr i) (inr j) same some = was.one_tag a b i j same some
