use Rattle.std.proofs.Common.{◌≡◌, ℕ, ◌*◌, Bool, List, length, sym, ap, ap₂, subst, subst₂, ◌∙◌, arith}
use Rattle.std.proofs.lemmas.Result.{IfOk-weaker}
use Rattle.sm_base.specs.Numbers.{div_up}
use Rattle.sm_base.specs.declared.names.Name.TheVariants.{Cbt}
use Rattle.sm_disk.specs.Held.{IsWhole, Torn, Wrote}
use Rattle.vg_volumes.specs.Stored.{Writes, sectors_in, stored}
use Rattle.sm_log.specs.Coded.{packed}
use Rattle.sm_cbt.proofs.FillLaws.{bits_whole, count_is}
use Rattle.sm_cbt.proofs.volumes.write_bits.Goals as goal

pub sectors-bits-requires : goal.sectors-bits-requires
sectors-bits-requires g c =
    let count = count_is (length c.bits-2.result.now) c.pieces.result c.from-pieces.result (c.pieces.ensures ∙ ap length (c.bits.ensures ∙ sym c.bits-2.ensures)) c.from-pieces.ensures in
    omega (arith, count)

pub write_at-requires : goal.write_at-requires
write_at-requires g c =
    let bits : List Bool = c.args.log.now.bits in
    let count = count_is (length bits) c.pieces.result c.from-pieces.result (c.pieces.ensures ∙ ap length c.bits.ensures) c.from-pieces.ensures in
    let is : c.sectors-bits.result.now ≡ packed (512 * div_up (length bits) 4096) bits = c.sectors-bits.ensures ∙ ap₂ (λ (k : ℕ) (b : List Bool). packed (512 * k) b) count c.bits-2.ensures in
    subst (λ (u : List ℕ). IsWhole 1 (length c.sectors-bits.result.now) (sectors_in (stored g.S.Store c.args.store.now) (Cbt u))) (sym c.disk.ensures)
    (bits_whole bits c.sectors-bits.result.now _ is c.requires.some c.requires.room)

pub returns-clause-writes : goal.returns-clause-writes
returns-clause-writes g c =
    let bits : List Bool = c.args.log.now.bits in
    let count = count_is (length bits) c.pieces.result c.from-pieces.result (c.pieces.ensures ∙ ap length c.bits.ensures) c.from-pieces.ensures in
    let is : c.sectors-bits.result.now ≡ packed (512 * div_up (length bits) 4096) bits = c.sectors-bits.ensures ∙ ap₂ (λ (k : ℕ) (b : List Bool). packed (512 * k) b) count c.bits-2.ensures in
    subst₂ (λ (u from : List ℕ). Writes g.S.Store (Cbt u) (Torn 1 from) c.args.store.now c.write_at.new.store) c.disk.ensures is c.write_at.ensures.writes

pub returns-clause-wrote : goal.returns-clause-wrote
returns-clause-wrote g c =
    let bits : List Bool = c.args.log.now.bits in
    let count = count_is (length bits) c.pieces.result c.from-pieces.result (c.pieces.ensures ∙ ap length c.bits.ensures) c.from-pieces.ensures in
    let is : c.sectors-bits.result.now ≡ packed (512 * div_up (length bits) 4096) bits = c.sectors-bits.ensures ∙ ap₂ (λ (k : ℕ) (b : List Bool). packed (512 * k) b) count c.bits-2.ensures in
    IfOk-weaker c.write_at.result _ _ (λ v h. subst₂ (λ (u from : List ℕ). Writes g.S.Store (Cbt u) (Wrote 1 from) c.args.store.now c.write_at.new.store) c.disk.ensures is h) c.write_at.ensures.wrote
