use Rattle.std.proofs.Common.{◌≡◌, ◌∷◌, ◌∙◌, [], codes, decimal, ap, sym}
use Rattle.sm_script.proofs.PieceLaws.{Writes-same}
use Rattle.sm_machine.specs.Replies.{by_spaces, refusal_parts}
use Rattle.sm_script.proofs.refusals.write_refusal.Goals as goal

pub returns-in-BadLine : goal.returns-in-BadLine
unfolding refusal_parts
returns-in-BadLine g c = Writes-same (ap (λ r. by_spaces (c.args.first.now ∷ refusal_parts r)) (sym c.in-BadLine.is)) c.write_named.ensures

pub returns-in-ReservedName : goal.returns-in-ReservedName
unfolding refusal_parts
returns-in-ReservedName g c = Writes-same (ap (λ r. by_spaces (c.args.first.now ∷ refusal_parts r)) (sym c.in-ReservedName.is)) c.write_named-in-ReservedName.ensures

pub returns-in-UnknownDisk : goal.returns-in-UnknownDisk
unfolding refusal_parts
returns-in-UnknownDisk g c = Writes-same (ap (λ r. by_spaces (c.args.first.now ∷ refusal_parts r)) (sym c.in-UnknownDisk.is)) c.write_named-in-UnknownDisk.ensures

pub returns-in-NameTaken : goal.returns-in-NameTaken
unfolding refusal_parts
returns-in-NameTaken g c = Writes-same (ap (λ r. by_spaces (c.args.first.now ∷ refusal_parts r)) (sym c.in-NameTaken.is)) c.write_named-in-NameTaken.ensures

pub returns-in-InUse : goal.returns-in-InUse
unfolding refusal_parts
returns-in-InUse g c = Writes-same (ap (λ r. by_spaces (c.args.first.now ∷ refusal_parts r)) (sym c.in-InUse.is)) c.write_named-in-InUse.ensures

pub returns-in-NotAttached : goal.returns-in-NotAttached
unfolding refusal_parts
returns-in-NotAttached g c = Writes-same (ap (λ r. by_spaces (c.args.first.now ∷ refusal_parts r)) (sym c.in-NotAttached.is)) c.write_named-in-NotAttached.ensures

pub returns-in-ReadOnly : goal.returns-in-ReadOnly
unfolding refusal_parts
returns-in-ReadOnly g c = Writes-same (ap (λ r. by_spaces (c.args.first.now ∷ refusal_parts r)) (sym c.in-ReadOnly.is)) c.write_named-in-ReadOnly.ensures

pub returns-in-RawDisk : goal.returns-in-RawDisk
unfolding refusal_parts
returns-in-RawDisk g c = Writes-same (ap (λ r. by_spaces (c.args.first.now ∷ refusal_parts r)) (sym c.in-RawDisk.is)) c.write_named-in-RawDisk.ensures

pub returns-in-Tracked : goal.returns-in-Tracked
unfolding refusal_parts
returns-in-Tracked g c = Writes-same (ap (λ r. by_spaces (c.args.first.now ∷ refusal_parts r)) (sym c.in-Tracked.is)) c.write_named-in-Tracked.ensures

pub returns-in-NotTracked : goal.returns-in-NotTracked
unfolding refusal_parts
returns-in-NotTracked g c = Writes-same (ap (λ r. by_spaces (c.args.first.now ∷ refusal_parts r)) (sym c.in-NotTracked.is)) c.write_named-in-NotTracked.ensures

pub returns-in-OutOfRange : goal.returns-in-OutOfRange
unfolding refusal_parts
returns-in-OutOfRange g c = Writes-same (ap (λ r. by_spaces (c.args.first.now ∷ refusal_parts r)) (sym c.in-OutOfRange.is)) c.write_named-in-OutOfRange.ensures

pub returns-in-BadSize : goal.returns-in-BadSize
unfolding refusal_parts
returns-in-BadSize g c = Writes-same (ap (λ r. by_spaces (c.args.first.now ∷ refusal_parts r)) (sym c.in-BadSize.is)) c.write_named-in-BadSize.ensures

pub returns-in-Shrink : goal.returns-in-Shrink
unfolding refusal_parts
returns-in-Shrink g c = Writes-same (ap (λ r. by_spaces (c.args.first.now ∷ refusal_parts r)) (sym c.in-Shrink.is)) c.write_named-in-Shrink.ensures

pub returns-in-ChainTooLong : goal.returns-in-ChainTooLong
unfolding refusal_parts
returns-in-ChainTooLong g c =
    let k = c.in-ChainTooLong in
    let words : c.text.result ∷ c.count.result ∷ [] ≡ codes "depth" ∷ decimal k.depth ∷ [] = cc (c.text.ensures, c.count.ensures) in
    Writes-same (ap (λ l. by_spaces (c.args.first.now ∷ codes "ChainTooLong" ∷ l)) words ∙ ap (λ r. by_spaces (c.args.first.now ∷ refusal_parts r)) (sym k.is)) c.write_named-in-ChainTooLong.ensures

pub returns-in-TooMany : goal.returns-in-TooMany
unfolding refusal_parts
returns-in-TooMany g c =
    let k = c.in-TooMany in
    let words : c.text-in-TooMany.result ∷ c.count-in-TooMany.result ∷ c.text-in-TooMany-2.result ∷ c.count-in-TooMany-2.result ∷ [] ≡ codes "have" ∷ decimal k.have ∷ codes "need" ∷ decimal k.need ∷ [] = cc (c.text-in-TooMany.ensures, c.count-in-TooMany.ensures, c.text-in-TooMany-2.ensures, c.count-in-TooMany-2.ensures) in
    Writes-same (ap (λ l. by_spaces (c.args.first.now ∷ codes "TooMany" ∷ l)) words ∙ ap (λ r. by_spaces (c.args.first.now ∷ refusal_parts r)) (sym k.is)) c.write_named-in-TooMany.ensures

pub returns-in-SequenceSpent : goal.returns-in-SequenceSpent
unfolding refusal_parts
returns-in-SequenceSpent g c = Writes-same (ap (λ r. by_spaces (c.args.first.now ∷ refusal_parts r)) (sym c.in-SequenceSpent.is)) c.write_named-in-SequenceSpent.ensures

pub returns-in-NoSpace : goal.returns-in-NoSpace
unfolding refusal_parts
returns-in-NoSpace g c =
    let k = c.in-NoSpace in
    let words : c.text-in-NoSpace.result ∷ c.count-in-NoSpace.result ∷ c.text-in-NoSpace-2.result ∷ c.count-in-NoSpace-2.result ∷ [] ≡ codes "need" ∷ decimal k.need ∷ codes "free" ∷ decimal k.free ∷ [] = cc (c.text-in-NoSpace.ensures, c.count-in-NoSpace.ensures, c.text-in-NoSpace-2.ensures, c.count-in-NoSpace-2.ensures) in
    Writes-same (ap (λ l. by_spaces (c.args.first.now ∷ codes "NoSpace" ∷ l)) words ∙ ap (λ r. by_spaces (c.args.first.now ∷ refusal_parts r)) (sym k.is)) c.write_named-in-NoSpace.ensures

pub returns-in-NoMemory : goal.returns-in-NoMemory
unfolding refusal_parts
returns-in-NoMemory g c = Writes-same (ap (λ r. by_spaces (c.args.first.now ∷ refusal_parts r)) (sym c.in-NoMemory.is)) c.write_named-in-NoMemory.ensures

pub returns-in-Differencing : goal.returns-in-Differencing
unfolding refusal_parts
returns-in-Differencing g c = Writes-same (ap (λ r. by_spaces (c.args.first.now ∷ refusal_parts r)) (sym c.in-Differencing.is)) c.write_named-in-Differencing.ensures

pub returns-in-BadFile : goal.returns-in-BadFile
unfolding refusal_parts
returns-in-BadFile g c =
    let k = c.in-BadFile in
    let words : c.text-in-BadFile.result ∷ c.number.result ∷ [] ≡ codes "sector" ∷ decimal k.sector ∷ [] = cc (c.text-in-BadFile.ensures, c.number.ensures) in
    Writes-same (ap (λ l. by_spaces (c.args.first.now ∷ codes "BadFile" ∷ l)) words ∙ ap (λ r. by_spaces (c.args.first.now ∷ refusal_parts r)) (sym k.is)) c.write_named-in-BadFile.ensures

pub returns-in-Cut : goal.returns-in-Cut
unfolding refusal_parts
returns-in-Cut g c =
    let k = c.in-Cut in
    let words : c.text-in-Cut.result ∷ c.number-in-Cut.result ∷ [] ≡ codes "sector" ∷ decimal k.sector ∷ [] = cc (c.text-in-Cut.ensures, c.number-in-Cut.ensures) in
    Writes-same (ap (λ l. by_spaces (c.args.first.now ∷ codes "Cut" ∷ l)) words ∙ ap (λ r. by_spaces (c.args.first.now ∷ refusal_parts r)) (sym k.is)) c.write_named-in-Cut.ensures
