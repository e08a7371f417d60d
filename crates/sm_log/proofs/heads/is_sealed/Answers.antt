use Rattle.std.proofs.Common.{◌≡◌, ◌∙◌, sym, take}
use Rattle.std.specs.Str.{bytes_eq}
use Rattle.sm_log.specs.Heads.{cookie}
use Rattle.sm_log.proofs.HeadLaws.{no_cookie, not_blank, summed}
use Rattle.sm_log.proofs.heads.is_sealed.Goals as goal
use Rattle.sm_log.proofs.heads.is_sealed.Goals.{then-starts_with, else-starts_with}

pub returns-then-all_zeros : goal.returns-then-all_zeros
returns-then-all_zeros c =
    let s = c.args.sector.now in
    let starts : c.starts_with.result ≡ bytes_eq cookie (take 8 (take 508 s)) = rw c.split_at.ensures.front at c.starts_with.ensures.value in
    elim c.if-starts_with.branch [
      | then-starts_with w ↦ summed s c.starts_with.result w.all_zeros.result c.read_u32.result c.sum_of.result c.told-sector starts w.if-starts_with.true
          (rw c.split_at.ensures.front at w.all_zeros.ensures) (sym w.value-is ∙ c.if-all_zeros.true)
          (rw c.split_at.ensures.back at c.read_u32.ensures) (rw c.split_at.ensures.front at c.sum_of.ensures)
      | else-starts_with w ↦ cc (w.value-is, w.if-starts_with.false, c.if-all_zeros.true)
    ]

pub returns-else-all_zeros : goal.returns-else-all_zeros
returns-else-all_zeros c =
    let s = c.args.sector.now in
    let starts : c.starts_with.result ≡ bytes_eq cookie (take 8 (take 508 s)) = rw c.split_at.ensures.front at c.starts_with.ensures.value in
    elim c.if-starts_with.branch [
      | then-starts_with w ↦ c.if-all_zeros.false ∙ not_blank s c.starts_with.result w.all_zeros.result starts w.if-starts_with.true
          (rw c.split_at.ensures.front at w.all_zeros.ensures) (sym w.value-is ∙ c.if-all_zeros.false)
      | else-starts_with w ↦ c.if-all_zeros.false ∙ no_cookie s c.starts_with.result starts w.if-starts_with.false
    ]
