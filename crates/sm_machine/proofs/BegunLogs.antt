-- Tracking that begins and that ends keeps logs good, and those with a tag are of snapshots.
use Rattle.std.proofs.Common.{◌≡◌, ◌≢◌, ℕ, ◌*◌, ◌≤◌, false, not, List, map, length, None, sym, ap, ◌∙◌, subst, inl, inr, arith}
use Rattle.std.proofs.lemmas.List.{length-replicate}
use Rattle.common_laws.specs.Lists.{In, Distinct}
use Rattle.common_laws.proofs.Lists.{Distinct-filter, Distinct-insert, In-filter, In-insert, In-map, Sorted-filter}
use Rattle.sm_base.proofs.NumberLemmas.{le-div_up}
use Rattle.sm_log.specs.Logs.{Log, is_log_of, log_before, log_of, log_sectors, new_log, piece_count, with_log, without_log}
use Rattle.sm_machine.specs.Shapes.{Shape, ImageRow}
use Rattle.sm_machine.specs.Refusals.{disk_pieces, log_room, with_image_of}
use Rattle.sm_machine.specs.Tracking.{AreGoodLogs, AreOfSnapshots, IsGoodLog, begun, ended, with_logs}
use Rattle.sm_machine.specs.WellFormed.{HasRecord, IsWellFormed, uuid_le}
use Rattle.sm_machine.proofs.LogLists.{no_log, sorted-with_log}
use Rattle.sm_machine.proofs.Numbers.{risen-up}

module _ (s : Shape) (w : IsWellFormed s) (g : AreGoodLogs s) where
  -- a log of before
  raised : (logs : List Log) (k : ℕ) (l : Log) → In l s.logs → IsGoodLog (with_logs logs k s) l
  raised logs k l h =
      let good : IsGoodLog s l = g.good l h in
      record {
        disk = good.disk;
        pieces = good.pieces;
        room = good.room;
        tag = omega (arith, good.tag, risen-up s.sequence k w.sequence);
        since = omega (arith, good.since, risen-up s.sequence k w.sequence);
      }

  pub ended_logs : (u : List ℕ) → AreGoodLogs (ended s u)
  ended_logs u =
      let old : (l : Log) → In l (without_log u s.logs) → In l s.logs = λ l h. (In-filter (λ (x : Log). not (is_log_of u x)) s.logs l h).0 in
      record {
        in_order = Sorted-filter (λ (l : Log). l.disk) uuid_le (λ (x : Log). not (is_log_of u x)) s.logs g.in_order;
        one_log = Distinct-filter (λ (l : Log). l.disk) (λ (x : Log). not (is_log_of u x)) s.logs g.one_log;
        good = λ l h. raised (without_log u s.logs) 1 l (old l h);
        one_tag = λ a b h i. g.one_tag a b (old a h) (old b i);
        within = omega arith;
      }

  module _ (u : List ℕ) (recorded : HasRecord s u) (none : log_of u s.logs ≡ None) where
    abbrev new : Log
    new = new_log u (log_room s u) (disk_pieces u s)

    abbrev all : List Log
    all = with_log new s.logs

    long : length new.bits ≡ disk_pieces u s
    long = length-replicate (disk_pieces u s) false

    new_good : IsGoodLog (with_logs all 2 s) new
    new_good = record {
      disk = recorded;
      pieces = λ i e. long ∙ ap (with_image_of (λ (j : ImageRow). piece_count j.size)) e;
      room = subst (λ (n : ℕ). log_sectors n ≤ log_room s u * s.extent) (sym long) (le-div_up (log_sectors (disk_pieces u s)) s.extent (omega (arith, w.geometry.extent_least)));
      tag = omega arith;
      since = omega arith;
    }

    each_good : (l : Log) → In l all → IsGoodLog (with_logs all 2 s) l
    unfolding with_log
    each_good l h = elim (In-insert log_before new s.logs l h) [ inl e ↦ subst (IsGoodLog (with_logs all 2 s)) (sym e) new_good | inr k ↦ raised all 2 l k ]

    one_tag_all : (a b : Log) → In a all → In b all → a.tag ≡ b.tag → a.tag ≢ 0 → a ≡ b
    unfolding with_log
    one_tag_all a b h i e t = elim (In-insert log_before new s.logs a h) [
      | inl x ↦ absurd (t (ap (λ (l : Log). l.tag) x))
      | inr k ↦ (elim (In-insert log_before new s.logs b i) [ inl y ↦ absurd (t (e ∙ ap (λ (l : Log). l.tag) y)) | inr n ↦ g.one_tag a b k n e t ])
    ]

    once_all : Distinct (map (λ (l : Log). l.disk) all)
    unfolding with_log
    once_all = Distinct-insert (λ (l : Log). l.disk) log_before new s.logs g.one_log (λ h.
        let x : (l : Log) × In l s.logs × (u ≡ l.disk) = In-map (λ (l : Log). l.disk) s.logs u h in
        no_log u s.logs x.0 none x.1 (sym x.2))

    pub begun_logs : AreGoodLogs (begun s u)
    begun_logs = record {
      in_order = sorted-with_log new s.logs g.in_order;
      one_log = once_all;
      good = each_good;
      one_tag = one_tag_all;
      within = omega arith;
    }

-- ---- logs with a tag

pub begun_snapshots : (s : Shape) (u : List ℕ) → AreOfSnapshots s → AreOfSnapshots (begun s u)
unfolding with_log
begun_snapshots s u a l h t = elim (In-insert log_before (new_log u (log_room s u) (disk_pieces u s)) s.logs l h) [ inl e ↦ absurd (t (ap (λ (x : Log). x.tag) e)) | inr k ↦ a l k t ]

pub ended_snapshots : (s : Shape) (u : List ℕ) → AreOfSnapshots s → AreOfSnapshots (ended s u)
ended_snapshots s u a l h t = a l (In-filter (λ (x : Log). not (is_log_of u x)) s.logs l h).0 t
