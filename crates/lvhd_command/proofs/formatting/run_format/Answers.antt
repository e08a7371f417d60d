use Rattle.std.proofs.Common.{ap, refl}
use Rattle.sm_disk.proofs.HeldLaws.{Keeps-none}
use Rattle.sm_disk.proofs.StreamLaws.{Adds-none}
use Rattle.lvhd_command.specs.Formatting.IsRefusalLine.{by_sizes}
use Rattle.lvhd_command.proofs.FormatLaws.{beside_sizes, said_calm, said_refusal, said_too_small, said_formatted, can_format}
use Rattle.lvhd_command.proofs.formatting.run_format.Goals as goal

pub returns-in_default-clause-did : goal.returns-in_default-clause-did
returns-in_default-clause-did g c =
    said_refusal _ _ _ c.print_bad_geometry.result _ c.print_bad_geometry.ensures c.said.ensures refl (by_sizes c.in_default.ensures.none)

pub returns-in-Ok-clause-did : goal.returns-in-Ok-clause-did
returns-in-Ok-clause-did g c =
    let sizes = c.in-Some.ensures.some in
    let e = c.in-Ok.ensures in
    said_formatted _ _ c.in-Some.geometry c.in-Ok.field-0.extents c.in-Ok.field-0.free c.print_formatted.result _ c.print_formatted.ensures c.said-in-Ok.ensures
    (record {
      sizes = record { extent = sizes.0; block = sizes.1; entries = sizes.2 };
      large = λ small. absurd (let x = c.in-Ok.is in let y = c.format.ensures.small small in cc);
      stands = e.formatted;
      settled = e.settled;
    }) e.extents e.free

pub returns-in-Err-TooSmall-clause-did : goal.returns-in-Err-TooSmall-clause-did
returns-in-Err-TooSmall-clause-did g c =
    let sizes = c.in-Some.ensures.some in
    let f = rw c.in-Err-TooSmall.field-0-is at c.in-Err-TooSmall.ensures.fault in
    said_too_small _ _ c.in-Some.geometry c.in-Err-TooSmall.sectors c.print_too_small.result _ c.print_too_small.ensures c.said-in-Err-TooSmall.ensures f.2
    (record { extent = sizes.0; block = sizes.1; entries = sizes.2 }) f.0 f.1

pub returns-in-Err-Device-clause-did : goal.returns-in-Err-Device-clause-did
returns-in-Err-Device-clause-did g c =
    let sizes = c.in-Some.ensures.some in
    record {
      geometry = c.in-Some.geometry;
      sizes = record { extent = sizes.0; block = sizes.1; entries = sizes.2 };
      large = λ small. absurd (let x = c.in-Err-Device.is in let y = c.format.ensures.small small in cc);
      rose = rw c.in-Err-Device.field-0-is at c.in-Err-Device.ensures.fault;
      nothing = Adds-none _;
      crash = c.format.ensures.crash;
    }

pub returns-in-Ok-clause-cannot_format : goal.returns-in-Ok-clause-cannot_format
returns-in-Ok-clause-cannot_format g c = λ cannot.
    let sizes = c.in-Some.ensures.some in
    absurd (can_format _ _ c.in-Some.geometry (record { extent = sizes.0; block = sizes.1; entries = sizes.2 })
    (λ small. absurd (let x = c.in-Ok.is in let y = c.format.ensures.small small in cc)) cannot)

pub returns-in-Err-Device-clause-cannot_format : goal.returns-in-Err-Device-clause-cannot_format
returns-in-Err-Device-clause-cannot_format g c = λ cannot.
    let sizes = c.in-Some.ensures.some in
    absurd (can_format _ _ c.in-Some.geometry (record { extent = sizes.0; block = sizes.1; entries = sizes.2 })
    (λ small. absurd (let x = c.in-Err-Device.is in let y = c.format.ensures.small small in cc)) cannot)

pub returns-in_default-clause-sink_calm : goal.returns-in_default-clause-sink_calm
returns-in_default-clause-sink_calm g c = λ other. said_calm _ _ _ _ _ c.print_bad_geometry.result _ _ c.print_bad_geometry.ensures c.said.ensures other

pub returns-in-Ok-clause-sink_calm : goal.returns-in-Ok-clause-sink_calm
returns-in-Ok-clause-sink_calm g c = λ other. said_calm _ _ _ _ _ c.print_formatted.result _ _ c.print_formatted.ensures c.said-in-Ok.ensures other

pub returns-in-Err-TooSmall-clause-sink_calm : goal.returns-in-Err-TooSmall-clause-sink_calm
returns-in-Err-TooSmall-clause-sink_calm g c = λ other. said_calm _ _ _ _ _ c.print_too_small.result _ _ c.print_too_small.ensures c.said-in-Err-TooSmall.ensures other

pub returns-in-Err-TooSmall-clause-calm : goal.returns-in-Err-TooSmall-clause-calm
returns-in-Err-TooSmall-clause-calm g c = λ other. let f = rw c.in-Err-TooSmall.field-0-is at c.in-Err-TooSmall.ensures.fault in ap g.D.Disk.faults f.2

pub returns-in_default-clause-beside : goal.returns-in_default-clause-beside
returns-in_default-clause-beside g c = λ told h other. Keeps-none _

pub returns-in-Ok-clause-beside : goal.returns-in-Ok-clause-beside
returns-in-Ok-clause-beside g c = λ told.
    let sizes = c.in-Some.ensures.some in
    beside_sizes _ _ c.in-Some.geometry _ _ (record { extent = sizes.0; block = sizes.1; entries = sizes.2 }) (c.format.ensures.beside told)

pub returns-in-Err-TooSmall-clause-beside : goal.returns-in-Err-TooSmall-clause-beside
returns-in-Err-TooSmall-clause-beside g c = λ told.
    let sizes = c.in-Some.ensures.some in
    beside_sizes _ _ c.in-Some.geometry _ _ (record { extent = sizes.0; block = sizes.1; entries = sizes.2 }) (c.format.ensures.beside told)

pub returns-in-Err-Device-clause-beside : goal.returns-in-Err-Device-clause-beside
returns-in-Err-Device-clause-beside g c = λ told.
    let sizes = c.in-Some.ensures.some in
    beside_sizes _ _ c.in-Some.geometry _ _ (record { extent = sizes.0; block = sizes.1; entries = sizes.2 }) (c.format.ensures.beside told)

pub returns-in-Err-NoMemory-clause-beside : goal.returns-in-Err-NoMemory-clause-beside
returns-in-Err-NoMemory-clause-beside g c = λ told.
    let sizes = c.in-Some.ensures.some in
    beside_sizes _ _ c.in-Some.geometry _ _ (record { extent = sizes.0; block = sizes.1; entries = sizes.2 }) (c.format.ensures.beside told)
