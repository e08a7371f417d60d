use Rattle.std.proofs.Common.{◌≡◌, ◌+◌, ◌-◌, ◌*◌, ◌/◌, ◌%◌, ◌<◌, ◌≤◌, ◌^◌, ℕ, zero, suc, List, [], ◌∷◌, ◌++◌, length, take, drop, set, length-set, append_assoc, decimal, arith, ap, sym, refl, ◌∙◌}
use Rattle.std.proofs.Common.{add-one}
use Rattle.std.proofs.Math.Nat.{pow-succ'}
use Rattle.std.proofs.lemmas.Fmt.{decimal_step, decimal_digit}
use Rattle.std.proofs.lemmas.List.{drop-set, take_rest}
use Rattle.sm_base.proofs.TextLemmas.{placed-placed}
use Rattle.sm_base.proofs.texts.put_decimal.Invariants.{IsWritten}
use Rattle.sm_base.proofs.texts.put_decimal.Goals as goal

-- one digit more
digit_written : (digits : List ℕ) (start rest number : ℕ) → IsWritten digits start rest number → 10 ≤ rest → rest < 2 ^ 64
    → IsWritten (set digits start (48 + rest % 10)) (start - 1) (rest / 10) number
digit_written digits zero rest number h more fits = absurd (omega (arith, h.room))
digit_written digits (suc start) rest number h more fits =
    let digit = 48 + rest % 10 in
    let kept : drop (suc start) (set digits (suc start) digit) ≡ digit ∷ drop (suc start + 1) digits =
    drop-set digits (suc start) digit (omega (arith, h.place, h.long)) in
    let place : suc start - 1 + 1 ≡ suc start = omega arith in
    let power : 10 ^ (suc start + 1) ≡ 10 * 10 ^ suc start =
    ap (λ n. 10 ^ n) (add-one (suc start)) ∙ pow-succ' 10 (suc start) in
    record {
      text = h.text ∙ ap (λ t. t ++ drop (suc start + 1) digits) (decimal_step rest more fits)
          ∙ append_assoc (decimal (rest / 10)) (digit ∷ []) (drop (suc start + 1) digits)
          ∙ ap (λ t. decimal (rest / 10) ++ t) (sym kept)
          ∙ ap (λ n. decimal (rest / 10) ++ drop n (set digits (suc start) digit)) (sym place);
      place = omega (arith, h.place);
      room = rw place (omega (arith, power, h.room));
      long = length-set digits (suc start) digit ∙ h.long;
    }

-- the last digit, which is the first
all_written : (digits : List ℕ) (start rest number size : ℕ) → IsWritten digits start rest number → rest < 10 → size ≡ 10
    → take (size - start) (drop start (set digits start (48 + rest))) ≡ decimal number
all_written digits start rest number size h small ten =
    let whole = set digits start (48 + rest) in
    let long : size ≡ length whole = ten ∙ sym h.long ∙ sym (length-set digits start (48 + rest)) in
    ap (λ n. take (n - start) (drop start whole)) long ∙ take_rest whole start
    ∙ drop-set digits start (48 + rest) (omega (arith, h.place, h.long))
    ∙ ap (λ t. t ++ drop (start + 1) digits) (sym (decimal_digit rest small)) ∙ sym h.text

pub loop-rest-preserved : goal.loop-rest-preserved
loop-rest-preserved c =
    let h = c.loop-rest.invariant in
    digit_written c.loop-rest.digits c.loop-rest.start c.loop-rest.rest c.args.number h c.loop-rest-test.true (omega arith)

pub returns-clause-written : goal.returns-clause-written
returns-clause-written c =
    let text = all_written c.loop-rest.digits c.loop-rest.start c.loop-rest.rest c.args.number 10 c.loop-rest.invariant c.loop-rest-test.false refl in
    let within : c.args.at ≤ length c.args.to.now = omega arith in
    let both = placed-placed c.args.at c.args.front.now (decimal c.args.number) c.args.to.now within in
    rw (c.put.ensures.written, text, c.put-middle.ensures.end, c.put-middle.ensures.written) both

pub returns-clause-end : goal.returns-clause-end
returns-clause-end c =
    let text = all_written c.loop-rest.digits c.loop-rest.start c.loop-rest.rest c.args.number 10 c.loop-rest.invariant c.loop-rest-test.false refl in
    omega (arith, ap length text)
