use Rattle.std.proofs.Common.{refl}
use Rattle.sm_standing.specs.Dropped.{drop_changes}
use Rattle.sm_log_rows.proofs.DroppedLaws.{apart_dropped, drop_first, drop_none, dropped_apart, dropped_shorter, dropped_volumes, removed_short, some_dropped}
use Rattle.sm_log_rows.proofs.dropping.law_dropped.Goals as goal

pub returns : goal.returns
returns c = record {
  first = drop_first;
  none = drop_none;
  apart = apart_dropped;
  shorter = dropped_shorter;
  short = removed_short;
  volumes = dropped_volumes;
  all = dropped_apart;
  some = λ count k t table. let w = some_dropped count k (drop_changes t) t table refl in (w.table, w.dropping);
}
