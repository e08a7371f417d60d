-- What the library writes is base64 as it is told here.
use Rattle.std.proofs.Common.{◌≡◌, ℕ, suc, ◌+◌, ◌-◌, ◌*◌, ◌/◌, ◌%◌, List, [], ◌∷◌, ◌++◌, length, replicate, sym, ap, ◌∙◌, refl, arith}
use Rattle.base64.specs.Engines.{standard}
use Rattle.base64.specs.GeneralPurpose.{encode_of, engine_symbols}
use Rattle.base64.specs.Rfc4648.{encode_symbols, padding_len}
use Rattle.sm_log.specs.Coded.{base64, symbol}

padding_goes_on : (n : ℕ) → padding_len (suc (suc (suc n))) ≡ padding_len n
padding_goes_on n = ap (λ (r : ℕ). (3 - r) % 3) (same_rest n)
  where
    same_rest : (n : ℕ) → suc (suc (suc n)) % 3 ≡ n % 3
    same_rest n = omega arith

pub base64_is : (m : List ℕ) → base64 m ≡ encode_of standard m
unfolding base64 encode_symbols
base64_is [] = refl
base64_is (a ∷ []) = refl
base64_is (a ∷ b ∷ []) = refl
base64_is (a ∷ b ∷ c ∷ rest) =
    ap (λ (more : List ℕ). symbol (a / 4) ∷ symbol (a % 4 * 16 + b / 16) ∷ symbol (b % 16 * 4 + c / 64) ∷ symbol (c % 64) ∷ more)
    (base64_is rest ∙ ap (λ (n : ℕ). encode_symbols (engine_symbols standard) rest ++ replicate n 61) (sym (padding_goes_on (length rest))))
