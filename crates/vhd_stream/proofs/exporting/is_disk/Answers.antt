use Rattle.std.proofs.Common.{◌≡◌, Option, Some, None, refl, sym, ap, ◌∙◌}
use Rattle.std.specs.Option.{is_some, option_map}
use Rattle.sm_mgt.specs.Places.{record_in}
use Rattle.sm_record.specs.declared.records.Record.{Record}
use Rattle.sm_ready.specs.Known.{known, machine_record}
use Rattle.sm_ready.proofs.LookLaws.{record_found, some_copied}
use Rattle.vhd_stream.proofs.exporting.is_disk.Goals as goal

some_map : (x : Option Record) → is_some x ≡ is_some (option_map machine_record x)
some_map None = refl
some_map (Some r) = refl

pub returns : goal.returns
returns c = λ s t o tidy.
    let m = known c.args.memory.now in
    c.is_some.ensures ∙ some_copied c.find.result ∙ ap is_some c.find.ensures.found ∙ some_map (record_in m.places c.args.disk.now) ∙ sym (ap is_some (record_found s t m c.args.disk.now o tidy))
