-- What a stop may leave of the two footers of an image while they are written.
use Rattle.std.proofs.Common.{◌≡◌, ◌≢◌, ℕ, ◌-◌, ◌<◌, ◌≤◌, ◌⊎◌, ◌==◌, ◌||◌, cond, List, Bool, true, false, Some, None, Ok, refl, sym, ap, ap₂, ◌∙◌, subst, inl, inr, ⊎_elim, eq-eqb, arith}
use Rattle.std.proofs.lemmas.Bool.{cases_Bool, cond-true, cond-false, ne_eqb, true≢false}
use Rattle.std.specs.Option.{option_or}
use Rattle.std.specs.Result.{result_ok}
use Rattle.sm_disk.specs.Held.{Held, May, Allows, reads}
use Rattle.sm_disk.proofs.HeldLaws.{May-reads}
use Rattle.vhd_fields.specs.declared.footers.Footer.{Footer}
use Rattle.vhd_fields.specs.Footers.{footer_read}
use Rattle.vhd_layout.specs.Layouts.{Sectors}
use Rattle.vhd_layout.specs.Images.{footer_at}
use Rattle.vhd_layout.proofs.ImageLaws.{option_cases}
use Rattle.vhd_image.specs.Calls.{IsEnds, MayPut}
use Rattle.vhd_image.proofs.OpeningLaws.{footer-own, footer-copy}

-- ---- a mix of a crash image and what a read gives

-- what a read gives where the test passes
pub mixed : (ℕ → Bool) → Held → Sectors → Sectors
mixed t a w p = cond (t p) (reads a p) (w p)

pub mixed-read : (t : ℕ → Bool) (a : Held) (w : Sectors) (p : ℕ) → t p ≡ true → mixed t a w p ≡ reads a p
unfolding mixed
mixed-read t a w p hit = cond-true (t p) (reads a p) (w p) hit

pub mixed-own : (t : ℕ → Bool) (a : Held) (w : Sectors) (p : ℕ) → t p ≡ false → mixed t a w p ≡ w p
unfolding mixed
mixed-own t a w p miss = cond-false (t p) (reads a p) (w p) miss

pub mixed-allowed : (n : ℕ) (t : ℕ → Bool) (a : Held) (w : Sectors) → ((p : ℕ) → p < n → t p ≡ false → May a p (w p)) → Allows n a (mixed t a w)
mixed-allowed n t a w others p below = ⊎_elim
    (λ hit. subst (λ (x : List ℕ). May a p x) (sym (mixed-read t a w p hit)) (May-reads a p))
    (λ miss. subst (λ (x : List ℕ). May a p x) (sym (mixed-own t a w p miss)) (others p below miss))
    (cases_Bool (t p))

-- ---- the footers

pub footer-same : (n : ℕ) (v w : Sectors) → w (n - 1) ≡ v (n - 1) → w 0 ≡ v 0 → footer_at n w ≡ footer_at n v
unfolding footer_at
footer-same n v w last front = ap₂ (λ (x y : List ℕ). option_or (result_ok (footer_read x)) (result_ok (footer_read y))) last front

-- one footer is written, and then the other
pub ends-one : (n : ℕ) (bytes : List ℕ) (a b : Held) → MayPut (n - 1) bytes a b → IsEnds n bytes a b
ends-one n bytes a b put p v may = ⊎_elim (λ was. inl was) (λ new. inr (inr new.0, new.1)) (put.reaches.may p v may)

pub ends-two : (n : ℕ) (bytes : List ℕ) (a b c : Held) → MayPut (n - 1) bytes a b → MayPut 0 bytes b c → IsEnds n bytes a c
ends-two n bytes a b c first second p v may = ⊎_elim (λ was. ends-one n bytes a b first p v was) (λ new. inr (inl new.0, new.1)) (second.reaches.may p v may)

pub record FooterStep (n : ℕ) (a : Held) (f f' : Footer) (w : Sectors) : Type 0 where
  pub before : Sectors
  pub allowed : Allows n a before
  pub same : (p : ℕ) → p ≢ 0 → p ≢ n - 1 → w p ≡ before p
  pub footer : (footer_at n w ≡ footer_at n before) ⊎ ((footer_at n w ≡ Some f') × (footer_at n before ≡ Some f))

front : ℕ → Bool
front p = p == 0

ends : ℕ → ℕ → Bool
ends n p = (p == 0) || (p == n - 1)

or_none : (x y : Bool) → x ≡ false → y ≡ false → (x || y) ≡ false
or_none x y a b = rw (a, b) refl

or_right : (x y : Bool) → y ≡ true → (x || y) ≡ true
or_right true y b = refl
or_right false y b = b

neither : (x y : Bool) → (x || y) ≡ false → (x ≡ false) × (y ≡ false)
neither true y e = absurd (true≢false e)
neither false y e = (refl, e)

pub not_at : (p q : ℕ) → (p == q) ≡ false → p ≢ q
not_at p q miss at = true≢false (sym (eq-eqb p q at) ∙ miss)

module _ (n : ℕ) (a b : Held) (bytes : List ℕ) (f f' : Footer) (some : 2 ≤ n) (reads_new : footer_read bytes ≡ Ok f') (reads_old : footer_at n (reads a) ≡ Some f) (new : (p : ℕ) (v : List ℕ) → May b p v → May a p v ⊎ (((p ≡ 0) ⊎ (p ≡ n - 1)) × (v ≡ bytes))) where
  own-new : (w : Sectors) → w (n - 1) ≡ bytes → footer_at n w ≡ Some f'
  own-new w at = footer-own n w f' (ap result_ok (ap footer_read at ∙ reads_new))

  copy-new : (w : Sectors) → w 0 ≡ bytes → result_ok (footer_read (w (n - 1))) ≡ None → footer_at n w ≡ Some f'
  copy-new w at none = footer-copy n w none ∙ ap result_ok (ap footer_read at ∙ reads_new)

  -- both footers as a read gives them
  both : (w : Sectors) → Allows n b w → footer_at n w ≡ Some f' → FooterStep n a f f' w
  unfolding ends
  both w may is = record {
    before = mixed (ends n) a w;
    allowed = mixed-allowed n (ends n) a w (λ p below miss. let apart = neither (p == 0) (p == n - 1) miss in ⊎_elim (λ was. was) (λ put. absurd (⊎_elim (not_at p 0 apart.0) (not_at p (n - 1) apart.1) put.0)) (new p (w p) (may p below)));
    same = λ p away far. sym (mixed-own (ends n) a w p (or_none (p == 0) (p == n - 1) (ne_eqb p 0 away) (ne_eqb p (n - 1) far)));
    footer = inr (is, footer-same n (reads a) (mixed (ends n) a w) (mixed-read (ends n) a w (n - 1) (or_right (n - 1 == 0) (n - 1 == n - 1) (eq-eqb (n - 1) (n - 1) refl))) (mixed-read (ends n) a w 0 refl) ∙ reads_old);
  }

  -- only the copy is new, and the last sector has a footer
  copy : (w : Sectors) (x : Footer) → Allows n b w → May a (n - 1) (w (n - 1)) → result_ok (footer_read (w (n - 1))) ≡ Some x → FooterStep n a f f' w
  unfolding front
  copy w x may last is = record {
    before = mixed front a w;
    allowed = mixed-allowed n front a w (λ p below miss. ⊎_elim (λ was. was) (λ put. ⊎_elim (λ at. absurd (not_at p 0 miss at)) (λ at. subst (λ (q : ℕ). May a q (w q)) (sym at) last) put.0) (new p (w p) (may p below)));
    same = λ p away far. sym (mixed-own front a w p (ne_eqb p 0 away));
    footer = inl (footer-own n w x is ∙ sym (footer-own n (mixed front a w) x (ap (λ (y : List ℕ). result_ok (footer_read y)) (mixed-own front a w (n - 1) (ne_eqb (n - 1) 0 (λ e. omega arith))) ∙ is)));
  }

  pub footers-step : (w : Sectors) → Allows n b w → FooterStep n a f f' w
  footers-step w may = ⊎_elim last_was (λ put. both w may (own-new w put.1)) (new (n - 1) (w (n - 1)) (may (n - 1) (omega arith)))
    where
      none_new : May a (n - 1) (w (n - 1)) → May a 0 (w 0) → FooterStep n a f f' w
      none_new last front_was = record {
        before = w;
        allowed = λ p below. ⊎_elim (λ was. was) (λ put. ⊎_elim (λ at. subst (λ (q : ℕ). May a q (w q)) (sym at) front_was) (λ at. subst (λ (q : ℕ). May a q (w q)) (sym at) last) put.0) (new p (w p) (may p below));
        same = λ p away far. refl;
        footer = inl refl;
      }

      last_was : May a (n - 1) (w (n - 1)) → FooterStep n a f f' w
      last_was last = ⊎_elim (none_new last)
          (λ put. ⊎_elim (λ none. both w may (copy-new w put.1 none)) (λ found. copy w found.0 may last found.1) (option_cases (result_ok (footer_read (w (n - 1))))))
          (new 0 (w 0) (may 0 (omega arith)))
