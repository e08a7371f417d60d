use Rattle.std.proofs.Common.{Bool, ℕ, Ok, None, length, replicate, refl, sym, ap, ap₂, ◌∙◌, ◌≡◌, option_copied, subst₂, arith}
use Rattle.sm_base.specs.Names.{base_uuid}
use Rattle.vg_meta.specs.Roomy.{RoomyTable, table_alone}
use Rattle.vg_meta.specs.Tables.{VolumeTable}
use Rattle.vg_volumes.specs.Sites.{Site}
use Rattle.vg_volumes.specs.Stored.{Stored}
use Rattle.vhd_chain.specs.Trees.{tree_row}
use Rattle.sm_machine.specs.Refusals.{refusal}
use Rattle.sm_machine.specs.Steps.{disks_next, shape_next}
use Rattle.sm_record.specs.declared.records.Record.{Record}
use Rattle.sm_standing.specs.Entries.{base_number}
use Rattle.sm_standing.specs.Standing.{disks}
use Rattle.sm_ready.specs.Does.{store_shape}
use Rattle.sm_ready.specs.Framing.{IsBetweenSteps}
use Rattle.sm_ready.specs.Known.{known, shape_in}
use Rattle.sm_ready.specs.Stores.{content_now}
use Rattle.sm_ready.proofs.ChainLaws.{done_behind, ready_read}
use Rattle.sm_ready.proofs.FramingLaws.{more_steps, reads_between, stays_steps, then_steps}
use Rattle.sm_ready.proofs.NumberLaws.{number_of_base}
use Rattle.sm_space.proofs.KeptRoom.{KeepsRoom, keeps_room}
use Rattle.gc_abandon.proofs.TableLaws.{table_given}
use Rattle.gc_abandon.specs.Abandoning.{unfolded_table}
use Rattle.gc_abandon.proofs.AbandonedLaws.{GaveUp, gave_up, give_up_failed}
use Rattle.sm_clone.specs.Forking.{AreForFork, HasForkedRows, IsForkedOnLeast, fork_of, forked_rows, forking, own_name, sectors_of, shape_forked, table_forked}
use Rattle.sm_clone.specs.declared.forks.Fork.{Fork}
use Rattle.sm_clone.proofs.ForkLaws.{poor_done, record_named}
use Rattle.sm_clone.proofs.GivenLaws.{as_read, can_given, done_given, forked_given, rows_given, shape_given}
use Rattle.sm_clone.proofs.PassedLaws.{new, passes_now, recorded}
use Rattle.sm_clone.proofs.forking.fork.Given.{Over}
use Rattle.sm_clone.proofs.forking.fork.Goals as goal

pub unreachable-requires : goal.unreachable-requires
unreachable-requires g c =
    let r = c.requires in
    recorded (g.S.Store.site c.args.store.now) (table_alone (g.S.Store.table c.args.store.now)) (known c.args.memory.now) c.args.disk.now c.args.twin.now c.args.read_only
    r.session.orderly r.session.tidy (passes_now r.session.orderly r.allowed)
    (sym c.find.ensures.found ∙ ap option_copied c.in_default.is)

pub twin_record-entry-requires-clause-not_nil : goal.twin_record-entry-requires-clause-not_nil
twin_record-entry-requires-clause-not_nil g c =
    let r = c.requires in
    (new (g.S.Store.site c.args.store.now) (table_alone (g.S.Store.table c.args.store.now)) (known c.args.memory.now) c.args.disk.now c.args.twin.now c.args.read_only
    r.session.orderly r.session.tidy (passes_now r.session.orderly r.allowed)).not_nil

pub twin_record-entry-requires-clause-named : goal.twin_record-entry-requires-clause-named
twin_record-entry-requires-clause-named g c =
    let r = c.requires in
    record_named (g.S.Store.site c.args.store.now) (table_alone (g.S.Store.table c.args.store.now)) (known c.args.memory.now) c.args.disk.now _ r.session.orderly r.session.tidy
    (sym c.find.ensures.found ∙ ap option_copied c.in-Some.is)

pub returns-in_default-prepare-clause-step : goal.returns-in_default-prepare-clause-step
returns-in_default-prepare-clause-step g c =
    let r = c.prepare.ensures.reads.stays in
    more_steps (omega arith) (stays_steps r (λ told. g.met.S.Store.leaves_now c.prepare.new.store told (r.failed ∙ c.requires.session.usable)))

pub returns-in_default-prepare-clause-done : goal.returns-in_default-prepare-clause-done
returns-in_default-prepare-clause-done g c = λ told ready.
    let e = c.prepare.ensures in
    poor_done c.args.memory.now c.requires.session.orderly c.requires.session.usable told ready (g.met.S.Store.leaves_now c.args.store.now told c.requires.session.usable) e.reads e.same.1 e.leaves _ _ _ (λ fine. absurd (let x = fine in cc)) refl

pub give_up-requires : goal.give_up-requires
give_up-requires g c = record { session = reads_between c.args.memory.now c.prepare.ensures.reads c.requires.session }

pub returns-in_default-give_up-clause-step : goal.returns-in_default-give_up-clause-step
returns-in_default-give_up-clause-step g c =
    let r = c.prepare.ensures.reads.stays in
    let read = stays_steps r (λ told. g.met.S.Store.leaves_now c.prepare.new.store told (r.failed ∙ c.requires.session.usable)) in
    more_steps (omega arith) (then_steps read c.give_up.ensures.step)

pub returns-in_default-give_up-clause-done : goal.returns-in_default-give_up-clause-done
returns-in_default-give_up-clause-done g c = λ told ready.
    let e = c.prepare.ensures in
    let failed = c.in_default-give_up.is in
    done_behind _ (λ (x : Stored). disks_next (disks (content_now x.site x.table x.area)) (shape_in x.site x.table (known c.args.memory.now)) (forking c.args.disk.now c.args.twin.now c.args.read_only)) e.reads e.same.1 e.leaves
    (λ fine. absurd (let x = fine in cc))
    (give_up_failed g.S.Store c.prepare.new.store c.give_up.new.store c.args.memory.now c.give_up.new.memory c.args.disk.now (forking c.args.disk.now c.args.twin.now c.args.read_only)
    _ (c.give_up.result ≡ Ok tt) (e.reads.stays.failed ∙ c.requires.session.usable) told (λ some. let fine = (c.give_up.ensures.none some).0 in cc) (λ fine. cc)
    (λ is. c.give_up.ensures.done is told (ready_read c.args.memory.now e.reads e.same.1 ready)))

-- ---- once it is given up

pub make_fork-requires : goal.make_fork-requires
make_fork-requires g c =
    let r = c.requires in
    let reads = c.prepare.ensures.reads in
    let i = c.in-Ok.ensures in
    let v = c.in-Ok-give_up.ensures in
    let w = gave_up v.step v.session_still v.shape v.none v.done refl in
    let orderly = (reads_between c.args.memory.now reads r.session).orderly in
    let blank = ap (λ (s : Site). replicate s.geometry.entries None) (sym reads.stays.site) in
    record {
      can = can_given w orderly (keeps_room g.S.Store c.prepare.new.store c.give_up.new.store c.args.memory.now c.args.disk.now orderly (λ no. (v.none no).1) v.commits) v.operation v.others v.logs v.commits
          c.args.twin.now c.args.read_only _ _ _ c.in-Ok.parts
          (as_read reads (λ s t. refusal (shape_in s t (known c.args.memory.now)) (forking c.args.disk.now c.args.twin.now c.args.read_only) ≡ None) r.allowed)
          (sym c.find.ensures.found ∙ ap option_copied c.in-Some.is) c.twin_record-entry.ensures.proper c.twin_record-entry.ensures.is
          (ap₂ (λ n b. let x : Fork = record { disk = c.args.disk.now; own = n; base = b; twin = c.args.twin.now } in x) c.image_name.ensures
          (c.base_uuid.ensures ∙ ap base_uuid (c.seq.ensures.seq ∙ ap (λ (k : RoomyTable). k.sequence) c.table.ensures.table))) i.place
          (as_read reads (λ s t. AreForFork s t (shape_in s t (known c.args.memory.now)) c.args.disk.now
          (sectors_of (tree_row c.args.memory.now.tree.rows (own_name c.args.memory.now.tree.rows c.args.disk.now))) c.in-Ok.parts.own.items c.in-Ok.parts.twins.items) i.extents) (i.own_map ∙ blank) (i.twin_map ∙ blank) i.rows;
    }

pub returns-in_default-make_fork-clause-step : goal.returns-in_default-make_fork-clause-step
returns-in_default-make_fork-clause-step g c =
    let r = c.prepare.ensures.reads.stays in
    let read = stays_steps r (λ told. g.met.S.Store.leaves_now c.prepare.new.store told (r.failed ∙ c.requires.session.usable)) in
    then_steps read (then_steps c.give_up.ensures.step c.make_fork.ensures.step)

pub returns-in_default-make_fork-clause-done : goal.returns-in_default-make_fork-clause-done
returns-in_default-make_fork-clause-done g c = λ told ready.
    let e = c.prepare.ensures in
    let v = c.in-Ok-give_up.ensures in
    done_given c.args.twin.now c.make_fork.new.memory _ (c.make_fork.result ≡ Ok tt) e.reads e.same.1 e.leaves
    (gave_up v.step v.session_still v.shape v.none v.done refl) c.requires.session told ready
    (g.met.S.Store.leaves_now c.prepare.new.store told (e.reads.stays.failed ∙ c.requires.session.usable)) (g.met.S.Store.leaves_now c.give_up.new.store told v.session_still.usable)
    (ap (λ (x : Record). x.read_only) c.twin_record-entry.ensures.is) (λ fine. absurd (let x = fine in cc)) (c.make_fork.ensures.done told)

-- ---- at the end

-- it was given up, or none was there
gave : (g : Over) (c : goal.In-Ok-make_fork g) → GaveUp g.S.Store c.args.disk.now c.prepare.new.store c.args.memory.now c.give_up.new.store c.give_up.new.memory
gave g c = let v = c.in-Ok-give_up.ensures in gave_up v.step v.session_still v.shape v.none v.done refl

-- the session, behind the call that only read
read : (g : Over) (c : goal.In-Ok-make_fork g) → IsBetweenSteps g.S.Store c.prepare.new.store c.args.memory.now
read g c = reads_between c.args.memory.now c.prepare.ensures.reads c.requires.session

roomy : (g : Over) (c : goal.In-Ok-make_fork g) → KeepsRoom g.S.Store c.prepare.new.store c.give_up.new.store
roomy g c = let v = c.in-Ok-give_up.ensures in
    keeps_room g.S.Store c.prepare.new.store c.give_up.new.store c.args.memory.now c.args.disk.now (read g c).orderly (λ no. (v.none no).1) v.commits

table_is : (g : Over) (c : goal.In-Ok-make_fork g)
    → table_alone (g.S.Store.table c.give_up.new.store) ≡ unfolded_table c.args.memory.now.operation c.args.disk.now (table_alone (g.S.Store.table c.prepare.new.store))
table_is g c = let v = c.in-Ok-give_up.ensures in table_given g.S.Store c.prepare.new.store c.give_up.new.store c.args.memory.now c.args.disk.now (λ no. (v.none no).1) v.commits

-- the number that names the base, and the fork by it
base_is : (g : Over) (c : goal.In-Ok-make_fork g) → c.base_uuid.result ≡ base_uuid (g.S.Store.table c.prepare.new.store).sequence
base_is g c = c.base_uuid.ensures ∙ ap base_uuid (c.seq.ensures.seq ∙ ap (λ (k : RoomyTable). k.sequence) c.table.ensures.table)

fork_is : (g : Over) (c : goal.In-Ok-make_fork g) → record { disk = c.args.disk.now; own = c.image_name.result; base = c.base_uuid.result; twin = c.args.twin.now }
    ≡ fork_of (g.S.Store.table c.prepare.new.store).sequence c.args.memory.now.tree.rows c.args.disk.now c.args.twin.now
fork_is g c = ap₂ (λ n b. let x : Fork = record { disk = c.args.disk.now; own = n; base = b; twin = c.args.twin.now } in x) c.image_name.ensures (base_is g c)

taken : (g : Over) (c : goal.In-Ok-make_fork g)
    → AreForFork (g.S.Store.site c.prepare.new.store) (table_alone (g.S.Store.table c.prepare.new.store)) (store_shape g.S.Store c.prepare.new.store c.args.memory.now) c.args.disk.now (sectors_of (tree_row c.args.memory.now.tree.rows (own_name c.args.memory.now.tree.rows c.args.disk.now))) c.in-Ok.parts.own.items c.in-Ok.parts.twins.items
taken g c = as_read c.prepare.ensures.reads (λ s t. AreForFork s t (shape_in s t (known c.args.memory.now)) c.args.disk.now
    (sectors_of (tree_row c.args.memory.now.tree.rows (own_name c.args.memory.now.tree.rows c.args.disk.now))) c.in-Ok.parts.own.items c.in-Ok.parts.twins.items) c.in-Ok.ensures.extents

pub returns-clause-step : goal.returns-clause-step
returns-clause-step g c =
    let r = c.prepare.ensures.reads.stays in
    let read = stays_steps r (λ told. g.met.S.Store.leaves_now c.prepare.new.store told (r.failed ∙ c.requires.session.usable)) in
    then_steps read (then_steps c.give_up.ensures.step c.make_fork.ensures.step)

pub returns-clause-least : goal.returns-clause-least
returns-clause-least g c =
    let m = c.args.memory.now in
    let stays = c.prepare.ensures.reads.stays in
    let sectors = sectors_of (tree_row m.tree.rows (own_name m.tree.rows c.args.disk.now)) in
    subst₂ (λ (s : Site) (t : VolumeTable). IsForkedOnLeast s (unfolded_table m.operation c.args.disk.now t) (shape_in s t (known m)) (fork_of t.sequence m.tree.rows c.args.disk.now c.args.twin.now)
    sectors (table_alone (g.S.Store.table c.make_fork.new.store))) stays.site stays.table
    (forked_given (gave g c) (roomy g c) sectors c.in-Ok.parts.own.items c.in-Ok.parts.twins.items (taken g c) c.args.twin.now m.tree.rows _ (table_is g c)
    (c.in-Ok-make_fork.ensures.table
    ∙ ap (λ (f : Fork). table_forked (table_alone (g.S.Store.table c.give_up.new.store)) f c.in-Ok.parts.own.items c.in-Ok.parts.twins.items) (fork_is g c)))

pub returns-clause-images : goal.returns-clause-images
returns-clause-images g c =
    let m = c.args.memory.now in
    let k = c.give_up.new.memory in
    let stays = c.prepare.ensures.reads.stays in
    subst₂ (λ (s : Site) (t : VolumeTable). HasForkedRows s (unfolded_table m.operation c.args.disk.now t) (shape_in s t (known m)) (fork_of t.sequence m.tree.rows c.args.disk.now c.args.twin.now)
    c.args.now m.tree.rows c.make_fork.new.memory.tree.rows) stays.site stays.table
    (rows_given (gave g c) (roomy g c) (fork_of (g.S.Store.table c.prepare.new.store).sequence m.tree.rows c.args.disk.now c.args.twin.now) c.args.now
    c.in-Ok.parts.own.items c.in-Ok.parts.twins.items _ c.in-Ok-give_up.ensures.others.0 (table_is g c) (taken g c)
    (c.in-Ok-make_fork.ensures.images
    ∙ ap (λ (f : Fork). forked_rows (g.S.Store.site c.give_up.new.store) (table_alone (g.S.Store.table c.give_up.new.store)) f c.args.now
    (length c.in-Ok.parts.own.items) (length c.in-Ok.parts.twins.items) (tree_row k.tree.rows f.own) k.tree.rows) (fork_is g c)))

pub returns-clause-shape : goal.returns-clause-shape
returns-clause-shape g c =
    let m = c.args.memory.now in
    let stays = c.prepare.ensures.reads.stays in
    let few = (read g c).orderly.table.sequence in
    c.in-Ok-make_fork.ensures.shape
    ∙ ap₂ (λ (j : ℕ) (b : Bool). shape_forked (store_shape g.S.Store c.give_up.new.store c.give_up.new.memory) j (forking c.args.disk.now c.args.twin.now b))
    (ap base_number (base_is g c) ∙ number_of_base (g.S.Store.table c.prepare.new.store).sequence few) (ap (λ (x : Record). x.read_only) c.twin_record-entry.ensures.is)
    ∙ shape_given (gave g c) c.args.twin.now c.args.read_only
    ∙ ap₂ (λ (s : Site) (t : VolumeTable). shape_next (shape_in s t (known m)) (forking c.args.disk.now c.args.twin.now c.args.read_only)) stays.site stays.table

pub returns-clause-done : goal.returns-clause-done
returns-clause-done g c = λ told ready.
    let e = c.prepare.ensures in
    done_given c.args.twin.now c.make_fork.new.memory _ (c.make_fork.result ≡ Ok tt) e.reads e.same.1 e.leaves (gave g c) c.requires.session told ready
    (g.met.S.Store.leaves_now c.prepare.new.store told (e.reads.stays.failed ∙ c.requires.session.usable)) (g.met.S.Store.leaves_now c.give_up.new.store told c.in-Ok-give_up.ensures.session_still.usable)
    (ap (λ (x : Record). x.read_only) c.twin_record-entry.ensures.is) (λ fine. c.in-Ok-make_fork.is) (c.make_fork.ensures.done told)
