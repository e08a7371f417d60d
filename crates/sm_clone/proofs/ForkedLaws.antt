-- What holds of a store and of memory once a fork is made that may be made: table and memory are orderly and tidy, the images are
-- those of the fork and true, and the shape is the machine's.
use Rattle.std.proofs.Common.{◌≡◌, ℕ, ◌+◌, List, length, set, slice_set, unwrap_or, Option, Some, None, IsSome, refl, sym, ap, ap₂, ◌∙◌, subst, subst₂, arith}
use Rattle.std.proofs.lemmas.Option.{same_Some}
use Rattle.sm_log.specs.Logs.{Log}
use Rattle.sm_machine.specs.Operations.{Op}
use Rattle.vg_meta.specs.Tables.{VolumeTable}
use Rattle.vg_volumes.specs.Sites.{Site}
use Rattle.vg_volumes.specs.declared.stores.Store.{Ghosts}
use Rattle.vhd_image.specs.declared.images.Body.{Body}
use Rattle.vhd_chain.specs.Trees.{tree_row}
use Rattle.vhd_chain.specs.declared.rows.TreeRow.{TreeRow}
use Rattle.sm_record.specs.declared.records.Record.{Record}
use Rattle.sm_mgt.specs.Places.{place_for}
use Rattle.sm_machine.specs.Shapes.{Shape, risen}
use Rattle.sm_standing.specs.Entries.{base_number}
use Rattle.sm_ready.specs.Does.{store_shape}
use Rattle.sm_ready.specs.Frames.{HasTrueImages}
use Rattle.sm_ready.specs.Known.{Known, known, shape_in}
use Rattle.sm_ready.specs.Orderly.{IsOrderly}
use Rattle.sm_ready.specs.Ready.{IsTidy}
use Rattle.sm_ready.specs.Sessions.{IsOrderlyStore, IsTidyStore}
use Rattle.sm_ready.specs.declared.memory.Memory.{Memory}
use Rattle.sm_ready.proofs.ChainLaws.{tab}
use Rattle.sm_ready.proofs.NumberLaws.{number_of_base}
use Rattle.sm_calls.specs.Calls.{DoesRun}
use Rattle.sm_clone.specs.Forking.{AreForFork, CanFork, IsUsedAs, base_body, fork_calls, fork_of, forked_rows, forking, sectors_of, shape_forked, table_forked}
use Rattle.sm_clone.specs.declared.forks.Fork.{Fork}
use Rattle.sm_clone.specs.declared.preparing.Parts.{Parts}
use Rattle.sm_clone.proofs.ForkOrderly.{IsForkedTable, forked_table, orderly_then, tidy_then}
use Rattle.sm_clone.proofs.ForkTrue.{true_then}
use Rattle.sm_clone.proofs.MakingLaws.{twin_uuid}
use Rattle.sm_clone.proofs.PassedLaws.{forked_after, found, new}
use Rattle.sm_clone.proofs.ShapeLaws.{known_then, shape_then}
use Rattle.sm_clone.proofs.TableLaws.{stage_8}

-- what is in memory once the fork is made
pub record IsForkedMemory (s : Site) (t : VolumeTable) (m n : Memory) (f : Fork) (own twins : ℕ) (entry : Record) (now : ℕ) : Type 0 where
  pub rows : n.tree.rows ≡ forked_rows s t f now own twins (tree_row m.tree.rows f.own) m.tree.rows
  pub records : n.records ≡ slice_set m.records (unwrap_or (place_for m.records entry.uuid) 0) (Some entry)
  pub logs : n.logs ≡ m.logs
  pub uses : IsUsedAs f m.attached n.attached
  pub others : n.operation ≡ m.operation

some_of : (x : Option ℕ) → IsSome x → x ≡ Some (unwrap_or x 0)
some_of None h = absurd (let k = h in cc)
some_of (Some k) h = refl

module _ {S : Type 0} {g : Ghosts S} {a : S} {m : Memory} {f : Fork} {p : Parts} {entry : Record} (can : CanFork g a m f p entry) where
  abbrev s : Site
  s = g.site a

  abbrev t : VolumeTable
  t = tab g a

  -- the fork by the table's number
  abbrev by_number : Fork
  by_number = fork_of can.allowed.number m.tree.rows f.disk f.twin

  abbrev own : List ℕ
  own = p.own.items

  abbrev twins : List ℕ
  twins = p.twins.items

  abbrev k : ℕ
  k = unwrap_or (place_for m.records entry.uuid) 0

  uuid_is : entry.uuid ≡ f.twin
  uuid_is = ap (λ (r : Record). r.uuid) can.entry_is

  pub placed : place_for m.records f.twin ≡ Some k
  placed = some_of (place_for m.records f.twin) can.place ∙ ap (λ v. Some (unwrap_or (place_for m.records v) 0)) (sym uuid_is)

  pub taken : AreForFork s t (shape_in s t (known m)) f.disk (sectors_of (tree_row m.tree.rows by_number.own)) own twins
  taken = subst (λ (x : Fork). AreForFork s t (shape_in s t (known m)) f.disk (sectors_of (tree_row m.tree.rows x.own)) own twins) can.fork can.extents

  -- the row of the disk's image
  pub row_is : (r : TreeRow) → tree_row m.tree.rows f.own ≡ Some r → tree_row m.tree.rows by_number.own ≡ Some r
  row_is r at = ap (λ (x : Fork). tree_row m.tree.rows x.own) (sym can.fork) ∙ at

  module _ {e : S} (n : Memory) (now : ℕ) (site : g.site e ≡ s) (table : tab g e ≡ table_forked t f own twins) (memory : IsForkedMemory s t m n f (length own) (length twins) entry now) where
    pub there : IsForkedMemory s t m n by_number (length own) (length twins) entry now
    there = subst (λ (x : Fork). IsForkedMemory s t m n x (length own) (length twins) entry now) can.fork memory

    abbrev after : VolumeTable
    after = table_forked t by_number own twins

    table_is : tab g e ≡ after
    table_is = table ∙ ap (λ (x : Fork). table_forked t x own twins) can.fork

    abbrev memory_then : Known
    memory_then = known_then s t (known m) f.disk f.twin entry.read_only can.session.orderly can.session.tidy can.allowed now (length own) (length twins) k can.origin placed can.recorded taken.own_many taken.twin_many n.attached there.uses.disks

    pub known_is : known n ≡ memory_then
    known_is =
        ap₂ (λ (rs : List TreeRow) (ps : List (Option Record)). let x : Known = record { rows = rs; places = ps; logs = n.logs; attached = n.attached; op = n.operation } in x) there.rows
        (there.records ∙ ap (λ (r : Record). set m.records k (Some r)) can.entry_is)
        ∙ ap₂ (λ (ls : List Log) (o : Op). let x : Known = record memory_then { logs = ls; op = o } in x) there.logs there.others

    number : after.sequence ≡ t.sequence + 8
    number = (stage_8 s t (known m) f.disk f.twin entry.read_only can.session.orderly can.session.tidy can.allowed (sectors_of (tree_row m.tree.rows by_number.own)) own twins taken (twin_uuid can)).number

    volumes : IsForkedTable s.count t by_number own twins after
    volumes = forked_table s t (known m) f.disk f.twin entry.read_only can.session.orderly can.session.tidy can.allowed (sectors_of (tree_row m.tree.rows by_number.own)) own twins taken (twin_uuid can)

    pub orderly_end : IsOrderlyStore g e n
    orderly_end = subst₂ (λ (x : Site) (y : VolumeTable). IsOrderly x y (known n)) (sym site) (sym table_is) (subst (IsOrderly s after) (sym known_is)
        (orderly_then s t (known m) f.disk f.twin entry.read_only can.session.orderly can.session.tidy can.allowed can.kept_up now k can.origin placed can.recorded own twins taken.own_many taken.twin_many n.attached there.uses after volumes number))

    pub tidy_end : IsTidyStore g e n
    tidy_end = subst₂ IsTidy (sym table_is) (sym known_is)
        (tidy_then s t (known m) f.disk f.twin entry.read_only can.session.orderly can.session.tidy can.allowed can.kept_up now k can.origin placed can.recorded own twins taken.own_many taken.twin_many n.attached there.uses after volumes number)

    -- the number that names the base
    number_is : base_number f.base ≡ can.allowed.number
    number_is =
        let few = (new s t (known m) f.disk f.twin entry.read_only can.session.orderly can.session.tidy can.allowed).unspent in
        ap (λ (x : Fork). base_number x.base) can.fork ∙ number_of_base can.allowed.number (omega (arith, few))

    pub shape_end : store_shape g e n ≡ shape_forked (store_shape g a m) (base_number f.base) (forking f.disk f.twin entry.read_only)
    unfolding shape_in
    shape_end =
        ap₂ (λ (x : Site) (y : VolumeTable). shape_in x y (known n)) site table_is ∙ ap (shape_in s after) known_is
        ∙ shape_then s t (known m) f.disk f.twin entry.read_only can.session.orderly can.session.tidy can.allowed now (length own) (length twins) k can.origin placed can.recorded taken.own_many taken.twin_many n.attached there.uses.disks
        after number
        ∙ ap (λ (x : Shape). let y : Shape = record x { sequence = risen t.sequence 8 } in y)
        (sym (forked_after (record (store_shape g a m) { sequence = can.allowed.number }) f.disk f.twin entry.read_only))
        ∙ ap (λ j. shape_forked (store_shape g a m) j (forking f.disk f.twin entry.read_only)) (sym number_is)

  -- over the calls
  module _ {e : S} (now : ℕ) (image : Body) (run : DoesRun g (fork_calls s t f own twins now image k entry) a e (Unit {0})) where
    pub true_end : (r : TreeRow) → tree_row m.tree.rows f.own ≡ Some r → image ≡ base_body f r.image → (n : Memory)
        → n.tree.rows ≡ forked_rows s t f now (length own) (length twins) (tree_row m.tree.rows f.own) m.tree.rows → HasTrueImages g a m → HasTrueImages g e n
    true_end r at over n rows = true_then m f.disk f.twin entry.read_only can.session.orderly can.session.tidy can.allowed (sectors_of (tree_row m.tree.rows by_number.own)) own twins taken (twin_uuid can) now image k entry
        (subst (λ (x : Fork). DoesRun g (fork_calls s t x own twins now image k entry) a e (Unit {0})) can.fork run)
        (over ∙ ap₂ base_body can.fork (ap (λ (q : TreeRow). q.image) (same_Some r _ (sym (row_is r at) ∙ found s t (known m) f.disk f.twin entry.read_only can.session.orderly can.session.tidy can.allowed))))
        n (rows ∙ ap (λ (x : Fork). forked_rows s t x now (length own) (length twins) (tree_row m.tree.rows x.own) m.tree.rows) can.fork)
