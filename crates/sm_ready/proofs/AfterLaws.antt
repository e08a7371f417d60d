-- A guest's write that succeeded leaves the store ready.
use Rattle.vhd_image.specs.declared.images.Body.{Body}
use Rattle.std.proofs.Common.{◌≡◌, ◌≢◌, ◌⊎◌, inl, inr, ℕ, ◌*◌, ◌<◌, ◌≤◌, nat_lt, Bool, true, false, cond, List, [], length, Option, refl, sym, ap, ◌∙◌, subst}
use Rattle.std.proofs.lemmas.Bool.{lt-ltb, le-ltb, cases_lt}
use Rattle.sm_base.specs.declared.names.Name.{Name}
use Rattle.sm_base.specs.declared.names.Name.TheVariants.{Mgt, Vhd, Cbt}
use Rattle.sm_disk.specs.Held.{Held, Keeps, May, newest, reads}
use Rattle.vg_meta.specs.Tables.{VolumeTable, Row, IsTable, rows, extents_of}
use Rattle.vg_meta.proofs.ByName.{spread}
use Rattle.vg_volumes.specs.Sites.{Site, volume_of}
use Rattle.vg_volumes.specs.Volumes.{IsElsewhere, KeepsAt, KeepsElsewhere, span, spot, volume}
use Rattle.vhd_volumes.specs.Truth.{IsTrueIn}
use Rattle.common_laws.specs.Lists.{In}
use Rattle.sm_standing.specs.Logs.{IsLogged}
use Rattle.sm_standing.proofs.WorldLaws.{elsewhere}
use Rattle.sm_ready.specs.Known.{Known, shape_in}
use Rattle.vhd_chain.specs.declared.rows.TreeRow.{TreeRow}
use Rattle.vhd_chain.specs.Trees.{row_name}
use Rattle.sm_mgt.specs.Places.{Agrees, records_held}
use Rattle.sm_ready.specs.Ready.{IsReady, IsBelow, is_written_in}
use Rattle.vhd_volumes.specs.Steady.{IsHeadSector, IsQuiet, IsSteadyIn}
use Rattle.vhd_image.specs.Steady.{IsSteady}
use Rattle.sm_ready.specs.Stores.{content_now}
use Rattle.sm_ready.proofs.GuestLaws.{Writes}
use Rattle.sm_ready.proofs.LeftLaws.{extent_some}
use Rattle.sm_ready.proofs.LogLaws.{HoldsLogs, holds_keeps, holds_ready}
use Rattle.sm_ready.proofs.RestLaws.{agrees_keeps, steady_keeps}
use Rattle.vhd_image.specs.declared.images.Body.TheVariants as body

held_step : {A : Type 0} (b : Bool) (x y z : A) → x ≡ y → cond b x z ≡ cond b y z
held_step true x y z e = e
held_step false x y z e = refl

-- a volume keeps what it holds where each of its places is kept
pub spots_keep : (e : ℕ) (es : List ℕ) (P : ℕ → Type 0) (old new : Held) → KeepsAt P old new → ((p : ℕ) → p < span e es → P (spot e es p)) → Keeps (volume e es old) (volume e es new)
unfolding volume
spots_keep e es P old new keeps at_spots = record {
  reads = λ p. read p (cases_lt p (span e es));
  may = λ p v. left p v (cases_lt p (span e es));
}
  where
    read : (p : ℕ) → (p < span e es) ⊎ (span e es ≤ p)
        → newest (cond (nat_lt p (span e es)) (new.floor (spot e es p)) []) (cond (nat_lt p (span e es)) (new.pending (spot e es p)) []) ≡ newest (cond (nat_lt p (span e es)) (old.floor (spot e es p)) []) (cond (nat_lt p (span e es)) (old.pending (spot e es p)) [])
    read p (inl below) =
        ap (λ c. newest (cond c (new.floor (spot e es p)) []) (cond c (new.pending (spot e es p)) [])) (lt-ltb p (span e es) below)
        ∙ keeps.reads (spot e es p) (at_spots p below)
        ∙ sym (ap (λ c. newest (cond c (old.floor (spot e es p)) []) (cond c (old.pending (spot e es p)) [])) (lt-ltb p (span e es) below))
    read p (inr past) =
        ap (λ c. newest (cond c (new.floor (spot e es p)) []) (cond c (new.pending (spot e es p)) [])) (le-ltb p (span e es) past)
        ∙ sym (ap (λ c. newest (cond c (old.floor (spot e es p)) []) (cond c (old.pending (spot e es p)) [])) (le-ltb p (span e es) past))

    at : Held → ℕ → Bool → Held
    at h p c = record { floor = λ q. cond c (h.floor (spot e es p)) []; pending = λ q. cond c (h.pending (spot e es p)) [] }

    left : (p : ℕ) (v : List ℕ) → (p < span e es) ⊎ (span e es ≤ p) → May (at new p (nat_lt p (span e es))) p v → May (at old p (nat_lt p (span e es))) p v
    left p v (inl below) may =
        subst (λ c. May (at old p c) p v) (sym (lt-ltb p (span e es) below))
        (keeps.may (spot e es p) v (at_spots p below) (subst (λ c. May (at new p c) p v) (lt-ltb p (span e es) below) may))
    left p v (inr past) may =
        subst (λ c. May (at old p c) p v) (sym (le-ltb p (span e es) past)) (subst (λ c. May (at new p c) p v) (le-ltb p (span e es) past) may)

-- so does each other volume where one is written to
pub other_keeps : (s : Site) (t : VolumeTable) (old new : Held) (n m : Name) → IsTable s.count t → 0 < s.geometry.extent → KeepsElsewhere s.geometry.extent (extents_of (rows t n)) old new → m ≢ n
    → Keeps (volume_of s t old m) (volume_of s t new m)
other_keeps s t old new n m table pos keeps other =
    let e = s.geometry.extent in
    spots_keep e (extents_of (rows t m)) (λ p. IsElsewhere e (extents_of (rows t n)) p) old new keeps (λ p below. elsewhere s.count e (rows t) n m p (spread s.count t table) pos other below)

quiet_keeps : (a b : Held) → Keeps a b → IsQuiet a → IsQuiet b
quiet_keeps a b keeps quiet p v may = quiet p v (keeps.may p v may) ∙ sym (keeps.reads p)

-- a row of memory after the write: one from before under another name, or the written image with its map
abbrev pub IsAfterRow : Known → Name → Body → ℕ → TreeRow → Type 0
IsAfterRow m x b extents r = ((row_name r ≢ x) × In r m.rows) ⊎ ((row_name r ≡ x) × (r.image ≡ b) × (r.extents ≡ extents))

module _ (s : Site) (t : VolumeTable) (m m' : Known) (old new : Held) (u : List ℕ) (r : Row) (W : ℕ → List ℕ → Type 0) (h : Writes s t m old new u r W) (slots : List (Option ℕ)) where
  -- the clause that vhd_write lacks
  abbrev pub Heads : Type 0
  Heads = (p : ℕ) → IsHeadSector (length r.extents * s.geometry.extent) p
      → (reads (volume_of s t new (Vhd u)) p ≡ reads (volume_of s t old (Vhd u)) p) × ((v : List ℕ) → May (volume_of s t new (Vhd u)) p v → May (volume_of s t old (Vhd u)) p v)

  pub steady_written : IsTrueIn s.geometry (length r.extents * s.geometry.extent) (volume_of s t new (Vhd u)) h.at.head slots → Heads
      → IsSteadyIn s.geometry (length r.extents * s.geometry.extent) (volume_of s t new (Vhd u)) h.at.head slots
  steady_written truth heads = record {
    is_true = truth;
    still = λ p v here may. h.at.steady.still p v here ((heads p here).1 v may) ∙ sym (heads p here).0;
    holding = λ v allows. let f = h.guarded.follows v allows in f.follows.holds (h.at.steady.holding f.before f.allowed);
  }

  pub ready_written : IsTrueIn s.geometry (length r.extents * s.geometry.extent) (volume_of s t new (Vhd u)) h.at.head slots → Heads
      → ((q : TreeRow) → In q m'.rows → IsAfterRow m (Vhd u) (body.Vhd h.at.head slots) (length r.extents) q)
      → ((n : Name) → is_written_in (shape_in s t m') n ≡ false → (n ≢ Vhd u) × (is_written_in (shape_in s t m) n ≡ false))
      → m'.places ≡ m.places → m'.logs ≡ m.logs → IsBelow (content_now s t new) m'.op → IsReady s t new m'
  ready_written truth heads from quiet places logs below = record {
    firm = record { images = λ q i. image q (from q i); quiet = λ q i still. let w = quiet (row_name q) still in still_quiet q w.0 w.1 (from q i); below = below };
    records = subst (λ p. Agrees (records_held s t new) p) (sym places) (agrees_keeps (records_held s t old) (records_held s t new) m.places (keeps Mgt (λ e. let x = e in cc)) h.ready.records);
    recorded = quiet_keeps (records_held s t old) (records_held s t new) (keeps Mgt (λ e. let x = e in cc)) h.ready.recorded;
    logs = subst (IsLogged (content_now s t new)) (sym logs) held.logs;
    logged = held.quiet;
  }
    where
      keeps : (n : Name) → n ≢ Vhd u → Keeps (volume_of s t old n) (volume_of s t new n)
      keeps n other = other_keeps s t old new (Vhd u) n h.orderly.table (extent_some s t m h.orderly) h.keeps other

      held : HoldsLogs s t new m.logs
      held = holds_keeps (holds_ready s t old m h.orderly h.ready) new (λ v. keeps (Cbt v) (λ e. let x = e in cc))

      still_quiet : (q : TreeRow) → row_name q ≢ Vhd u → is_written_in (shape_in s t m) (row_name q) ≡ false → IsAfterRow m (Vhd u) (body.Vhd h.at.head slots) (length r.extents) q → IsQuiet (volume_of s t new (row_name q))
      still_quiet q other still (inl w) = quiet_keeps (volume_of s t old (row_name q)) (volume_of s t new (row_name q)) (keeps (row_name q) other) (h.ready.firm.quiet q w.1 still)
      still_quiet q other still (inr w) = absurd (other w.0)

      image : (q : TreeRow) → IsAfterRow m (Vhd u) (body.Vhd h.at.head slots) (length r.extents) q → IsSteady s.geometry (q.extents * s.geometry.extent) (volume_of s t new (row_name q)) q.image
      image q (inl w) = steady_keeps s.geometry (q.extents * s.geometry.extent) (volume_of s t old (row_name q)) (volume_of s t new (row_name q)) q.image (keeps (row_name q) w.0) (h.ready.firm.images q w.1)
      image q (inr w) =
          subst (λ b. IsSteady s.geometry (q.extents * s.geometry.extent) (volume_of s t new (row_name q)) b) (sym w.1)
          (subst (λ k. IsSteadyIn s.geometry (k * s.geometry.extent) (volume_of s t new (row_name q)) h.at.head slots) (sym w.2)
          (subst (λ n. IsSteadyIn s.geometry (length r.extents * s.geometry.extent) (volume_of s t new n) h.at.head slots) (sym w.0) (steady_written truth heads)))
