-- What two calls of a store did one after the other.
use Rattle.std.proofs.Common.{◌≡◌, ℕ, ◌≤◌, List, refl, sym, ap₂, ◌∙◌, subst, subst₂, arith}
use Rattle.sm_base.specs.declared.names.Name.{Name}
use Rattle.sm_disk.specs.Held.{Held, Keeps, Rose, SameHeld}
use Rattle.sm_disk.proofs.HeldLaws.{SameHeld-none, SameHeld-then, Keeps-none, Keeps-same, Keeps-then}
use Rattle.vg_meta.specs.Tables.{VolumeTable, rows, extents_of}
use Rattle.vg_meta.specs.Roomy.{RoomyTable, table_alone}
use Rattle.vg_volumes.specs.Sites.{size_of, volume_of, NoLessRoom}
use Rattle.vg_volumes.specs.Volumes.{SameElsewhere, KeepsElsewhere}
use Rattle.vg_volumes.specs.Stored.{stored, sectors_in, held_in, Stays, OnlyReads, Writes, WorksOn}
use Rattle.vg_volumes.specs.declared.stores.Store.{Ghosts}
use Rattle.vg_volumes.proofs.VolumeLaws.{SameElsewhere-none, SameElsewhere-then, KeepsAt-none, KeepsAt-keeps, KeepsAt-then, KeepsElsewhere-same}

pub NoLessRoom-none : (k : RoomyTable) → NoLessRoom k k
NoLessRoom-none k = record { spare_rows = omega arith; spare_extents = λ n. omega arith }

pub NoLessRoom-then : {a b c : RoomyTable} → NoLessRoom a b → NoLessRoom b c → NoLessRoom a c
NoLessRoom-then p q = record {
  spare_rows = omega (arith, p.spare_rows, q.spare_rows);
  spare_extents = λ n. omega (arith, p.spare_extents n, q.spare_extents n);
}

module _ {S : Type 0} {g : Ghosts S} where
  pub stays_none : (s : S) → Stays g s s
  stays_none s = record {
    site = refl;
    table = refl;
    failed = refl;
    version = refl;
    room = NoLessRoom-none (g.table s);
    faults = omega arith;
    beside = λ told. Keeps-none (g.beside s);
  }

  pub stays_then : {a b c : S} → Stays g a b → Stays g b c → Stays g a c
  stays_then p q = record {
    site = q.site ∙ p.site;
    table = q.table ∙ p.table;
    failed = q.failed ∙ p.failed;
    version = q.version ∙ p.version;
    room = NoLessRoom-then p.room q.room;
    faults = omega (arith, p.faults, q.faults);
    beside = λ told. Keeps-then (p.beside told) (q.beside told);
  }

  -- a call that commits nothing, as the trait tells it
  pub stays_from : {a b : S} → g.site b ≡ g.site a → (table_alone (g.table b) ≡ table_alone (g.table a)) × (g.failed b ≡ g.failed a) × (g.version b ≡ g.version a) → NoLessRoom (g.table a) (g.table b)
      → g.faults a ≤ g.faults b → (g.told → Keeps (g.beside a) (g.beside b)) → Stays g a b
  stays_from site (table, failed, version) room faults beside = record { site = site; table = table; failed = failed; version = version; room = room; faults = faults; beside = beside }

  -- a volume has as many sectors as before
  pub size_stays : (name : Name) {a b : S} → Stays g a b → sectors_in (stored g b) name ≡ sectors_in (stored g a) name
  size_stays name {a} {b} p = ap₂ (λ x y. size_of x y name) p.site p.table

  -- and holds what it holds by the site and the table from before
  pub held_stays : (name : Name) {a b : S} → Stays g a b → held_in (stored g b) name ≡ volume_of (g.site a) (table_alone (g.table a)) (g.area b) name
  held_stays name {a} {b} p = ap₂ (λ x y. volume_of x y (g.area b) name) p.site p.table

  -- a count that rose later rose
  pub rose_later : {a b c : S} → Stays g a b → Rose (g.faults b) (g.faults c) → Rose (g.faults a) (g.faults c)
  rose_later p r = omega (arith, p.faults, r)

  pub reads_none : (s : S) → OnlyReads g s s
  reads_none s = record {
    stays = stays_none s;
    device = λ told. Keeps-none (g.device s);
    held = λ told. SameHeld-none (g.area s);
    leaves = λ told t image l. l;
  }

  -- a call that makes room alone, as the trait tells it
  pub reads_room : {a b : S} → (g.site b ≡ g.site a) × (g.area b ≡ g.area a) × (g.failed b ≡ g.failed a) × (g.faults b ≡ g.faults a) × (g.version b ≡ g.version a)
      → (g.device b ≡ g.device a) × (g.beside b ≡ g.beside a) → table_alone (g.table b) ≡ table_alone (g.table a) → NoLessRoom (g.table a) (g.table b)
      → ((t : VolumeTable) (image : ℕ → List ℕ) → g.leaves b t image → g.leaves a t image) → OnlyReads g a b
  reads_room {a} {b} (site, area, failed, faults, version) (device, beside) table room leaves = record {
    stays = record {
      site = site;
      table = table;
      failed = failed;
      version = version;
      room = room;
      faults = omega (arith, faults);
      beside = λ told. subst (λ (h : Held). Keeps (g.beside a) h) (sym beside) (Keeps-none (g.beside a));
    };
    device = λ told. subst (λ (h : Held). Keeps (g.device a) h) (sym device) (Keeps-none (g.device a));
    held = λ told. subst (λ (h : Held). SameHeld (g.area a) h) (sym area) (SameHeld-none (g.area a));
    leaves = λ told. leaves;
  }

  pub reads_then : {a b c : S} → OnlyReads g a b → OnlyReads g b c → OnlyReads g a c
  reads_then p q = record {
    stays = stays_then p.stays q.stays;
    device = λ told. Keeps-then (p.device told) (q.device told);
    held = λ told. SameHeld-then (p.held told) (q.held told);
    leaves = λ told t image l. p.leaves told t image (q.leaves told t image l);
  }

  pub writes_none : (name : Name) (Did : Held → Held → Type 0) (s : S) → ((h : Held) → Did h h) → Writes g name Did s s
  writes_none name Did s none = record {
    stays = stays_none s;
    did = λ told. none (held_in (stored g s) name);
    beside = λ told. SameElsewhere-none _ _ (g.area s);
  }

  pub writes_then : {name : Name} {P Q R : Held → Held → Type 0} {a b c : S} → ((x y z : Held) → P x y → Q y z → R x z)
      → Writes g name P a b → Writes g name Q b c → Writes g name R a c
  writes_then {name} {P} {Q} {R} {a} {b} {c} both p q = record {
    stays = stays_then p.stays q.stays;
    did = λ told. both _ _ _ (p.did told) (q.did told);
    beside = λ told. SameElsewhere-then (p.beside told)
        (subst₂ (λ x y. SameElsewhere x.geometry.extent (extents_of (rows y name)) (g.area b) (g.area c)) p.stays.site p.stays.table (q.beside told));
  }

  pub writes_as : {name : Name} {P Q : Held → Held → Type 0} {a b : S} → ((x y : Held) → P x y → Q x y) → Writes g name P a b → Writes g name Q a b
  writes_as weak p = record { stays = p.stays; did = λ told. weak _ _ (p.did told); beside = p.beside }

  -- a write, as the trait tells it in the site and the table before it
  pub writes_from : {name : Name} {Did : Held → Held → Type 0} {a b : S} → Stays g a b
      → (g.told → Did (volume_of (g.site a) (table_alone (g.table a)) (g.area a) name) (volume_of (g.site a) (table_alone (g.table a)) (g.area b) name))
      → (g.told → SameElsewhere (g.site a).geometry.extent (extents_of (rows (table_alone (g.table a)) name)) (g.area a) (g.area b))
      → Writes g name Did a b
  writes_from {name} {Did} {a} {b} stays did beside = record {
    stays = stays;
    did = λ told. subst₂ (λ x y. Did (held_in (stored g a) name) (volume_of x y (g.area b) name)) (sym stays.site) (sym stays.table) (did told);
    beside = beside;
  }

  -- a write, told in the site and the table of an earlier store
  pub did_in : {name : Name} {Did : Held → Held → Type 0} {a b c : S} → Stays g a b → Writes g name Did b c → g.told
      → Did (volume_of (g.site a) (table_alone (g.table a)) (g.area b) name) (volume_of (g.site a) (table_alone (g.table a)) (g.area c) name)
  did_in {name} {Did} {a} {b} {c} p w told =
      let q = stays_then p w.stays in
      subst₂ (λ x y. Did (volume_of (g.site a) (table_alone (g.table a)) (g.area b) name) (volume_of x y (g.area c) name)) q.site q.table
      (subst₂ (λ x y. Did (volume_of x y (g.area b) name) (held_in (stored g c) name)) p.site p.table (w.did told))

  pub beside_in : {name : Name} {Did : Held → Held → Type 0} {a b c : S} → Stays g a b → Writes g name Did b c → g.told
      → SameElsewhere (g.site a).geometry.extent (extents_of (rows (table_alone (g.table a)) name)) (g.area b) (g.area c)
  beside_in {name} {Did} {a} {b} {c} p w told =
      subst₂ (λ x y. SameElsewhere x.geometry.extent (extents_of (rows y name)) (g.area b) (g.area c)) p.site p.table (w.beside told)

  pub works_none : (name : Name) (s : S) → WorksOn g name s s
  works_none name s = record { stays = stays_none s; elsewhere = λ told. KeepsAt-none _ (g.area s) }

  pub works_then : {name : Name} {a b c : S} → WorksOn g name a b → WorksOn g name b c → WorksOn g name a c
  works_then {name} {a} {b} {c} p q = record {
    stays = stays_then p.stays q.stays;
    elsewhere = λ told. KeepsAt-then (p.elsewhere told)
        (subst₂ (λ x y. KeepsElsewhere x.geometry.extent (extents_of (rows y name)) (g.area b) (g.area c)) p.stays.site p.stays.table (q.elsewhere told));
  }

  -- a write of the volume, a read, and a sync are work on it
  pub works_writes : {name : Name} {Did : Held → Held → Type 0} {a b : S} → Writes g name Did a b → WorksOn g name a b
  works_writes w = record { stays = w.stays; elsewhere = λ told. KeepsElsewhere-same (w.beside told) }

  pub works_reads : (name : Name) {a b : S} → OnlyReads g a b → WorksOn g name a b
  works_reads name r = record { stays = r.stays; elsewhere = λ told. KeepsAt-keeps _ (Keeps-same (r.held told)) }

  pub works_keeps : (name : Name) {a b : S} → Stays g a b → (g.told → Keeps (g.area a) (g.area b)) → WorksOn g name a b
  works_keeps name stays keeps = record { stays = stays; elsewhere = λ told. KeepsAt-keeps _ (keeps told) }
