-- What the volume of a log spells, and what is read of it.
use Rattle.std.proofs.Common.{◌≡◌, ℕ, ◌<◌, Bool, List, length, map, Option, Some, None, refl, sym, ap, ap₂, ◌∙◌, subst}
use Rattle.std.proofs.lemmas.Option.{none-some, same_Some}
use Rattle.common_laws.specs.Lists.{numbers, ◌>>=◌}
use Rattle.sm_cbt.specs.Making.{Spells, head_of}
use Rattle.sm_log.proofs.ByteLaws.{bit-flags, length-flags, same_flags}
use Rattle.sm_log.specs.Heads.{head_in}
use Rattle.sm_log.specs.Logs.{Log}
use Rattle.sm_log.specs.declared.heads.Head.{Head}
use Rattle.sm_standing.specs.Logs.{bit_in, log_read}

-- the sectors of a volume spell this log
pub read_spelled : (u : List ℕ) (n : ℕ) (sectors : ℕ → List ℕ) (l : Log) → l.disk ≡ u → l.extents ≡ n → Spells l sectors → log_read u n sectors ≡ Some l
unfolding log_read
read_spelled u n sectors l disk extents spells =
    ap (λ (x : Option Head). x >>= (λ h. Some (read h))) spells.head
    ∙ ap (λ (bs : List Bool). Some (record (read (head_of l)) { bits = bs })) bits
    ∙ ap₂ (λ (w : List ℕ) (k : ℕ). Some (record l { disk = w; extents = k })) (sym disk) (sym extents)
  where
    read : Head → Log
    read h = record { disk = u; extents = n; tag = h.tag; since = h.since; bits = map (bit_in sectors) (numbers 0 h.pieces) }

    bits : map (bit_in sectors) (numbers 0 (length l.bits)) ≡ l.bits
    bits = same_flags (map (bit_in sectors) (numbers 0 (length l.bits))) l.bits (length-flags (bit_in sectors) (length l.bits))
        (λ k below. let low : k < length l.bits = subst (λ (z : ℕ). k < z) (length-flags (bit_in sectors) (length l.bits)) below in bit-flags (bit_in sectors) (length l.bits) k low ∙ spells.bits k low)

-- and those of a log that was read do
pub record IsSpelled (u : List ℕ) (n : ℕ) (sectors : ℕ → List ℕ) (l : Log) : Type 0 where
  pub disk : l.disk ≡ u
  pub extents : l.extents ≡ n
  pub spells : Spells l sectors

pub spelled_read : (u : List ℕ) (n : ℕ) (sectors : ℕ → List ℕ) (l : Log) → log_read u n sectors ≡ Some l → IsSpelled u n sectors l
unfolding log_read
spelled_read u n sectors l e = by (head_in (sectors 0)) refl e
  where
    read : Head → Log
    read h = record { disk = u; extents = n; tag = h.tag; since = h.since; bits = map (bit_in sectors) (numbers 0 h.pieces) }

    spelled : (h : Head) → head_in (sectors 0) ≡ Some h → IsSpelled u n sectors (read h)
    spelled h is = record {
      disk = refl;
      extents = refl;
      spells = record {
        head = is ∙ ap (λ (k : ℕ). Some (record h { pieces = k })) (sym (length-flags (bit_in sectors) h.pieces));
        bits = λ k below. sym (bit-flags (bit_in sectors) h.pieces k (subst (λ (z : ℕ). k < z) (length-flags (bit_in sectors) h.pieces) below));
      };
    }

    by : (x : Option Head) → head_in (sectors 0) ≡ x → (x >>= (λ h. Some (read h))) ≡ Some l → IsSpelled u n sectors l
    by None is found = absurd (none-some l found)
    by (Some h) is found = subst (IsSpelled u n sectors) (same_Some (read h) l found) (spelled h is)
