use Rattle.std.proofs.Common.{◌^◌, ◌+◌, sym, subst, arith}
use Rattle.vg_meta.specs.Roomy.{RoomyTable, table_alone, rows_alone}
use Rattle.vg_meta.specs.Changes.{Permits}
use Rattle.vg_meta.proofs.RoomLaws.{stays_table}
use Rattle.vg_meta.proofs.tables.Table.apply.Goals as goal

pub invariant_of-self : goal.invariant_of-self
invariant_of-self c =
    stays_table (2 ^ 32) (c.self.inside.seq + 1) (rows_alone c.self.inside.volumes.items) (rows_alone c.apply_to.new.volumes.items) c.args.change
    c.self.invariant.volumes
    (subst (λ (k : RoomyTable). Permits (2 ^ 32) (table_alone k) c.args.change) (sym c.self.view_is) c.requires.allowed)
    c.apply_to.ensures.rows (omega arith)

pub invariant_of-self-else-self-lt-LAST_SEQUENCE : goal.invariant_of-self-else-self-lt-LAST_SEQUENCE
invariant_of-self-else-self-lt-LAST_SEQUENCE c =
    stays_table (2 ^ 32) c.self.inside.seq (rows_alone c.self.inside.volumes.items) (rows_alone c.apply_to.new.volumes.items) c.args.change
    c.self.invariant.volumes
    (subst (λ (k : RoomyTable). Permits (2 ^ 32) (table_alone k) c.args.change) (sym c.self.view_is) c.requires.allowed)
    c.apply_to.ensures.rows c.self.invariant.sequence
