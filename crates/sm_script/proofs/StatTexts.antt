-- The text of `stat`, in the pieces in which it is written.
use Rattle.std.proofs.Common.{◌≡◌, ℕ, List, [], ◌∷◌, ◌++◌, codes, append_assoc, sym, ap, ◌∙◌}
use Rattle.std.specs.List.{join_with_byte}
use Rattle.std.proofs.lemmas.List.Concat.{flat_map-append}
use Rattle.sm_script.specs.Pieces.{led}
use Rattle.sm_script.proofs.PieceLaws.{joined_more}

-- the last of the first words is written with a space behind it
spaced : (seq free : List ℕ) → join_with_byte 32 (codes "ok" ∷ codes "seq" ∷ seq ∷ codes "free" ∷ free ∷ codes "op " ∷ [])
    ≡ join_with_byte 32 (codes "ok" ∷ codes "seq" ∷ seq ∷ codes "free" ∷ free ∷ codes "op" ∷ []) ++ (32 ∷ [])
spaced seq free = simp append_assoc

pub stat_text : (seq free op count : List ℕ) (images : List (List ℕ))
    → join_with_byte 32 (codes "ok" ∷ codes "seq" ∷ seq ∷ codes "free" ∷ free ∷ codes "op " ∷ [])
    ++ (op ++ (led 32 (codes "images" ∷ count ∷ []) ++ led 32 images))
    ≡ join_with_byte 32 (codes "ok" ∷ codes "seq" ∷ seq ∷ codes "free" ∷ free ∷ codes "op" ∷ op ∷ codes "images" ∷ count ∷ images)
stat_text seq free op count images =
    let front = codes "seq" ∷ seq ∷ codes "free" ∷ free ∷ codes "op" ∷ [] in
    let more = codes "images" ∷ count ∷ [] in
    let tail : led 32 more ++ led 32 images ≡ led 32 (more ++ images) = sym (flat_map-append (λ part. 32 ∷ part) more images) in
    ap (λ l. join_with_byte 32 (codes "ok" ∷ codes "seq" ∷ seq ∷ codes "free" ∷ free ∷ codes "op " ∷ []) ++ (op ++ l)) tail
    ∙ ap (λ l. l ++ (op ++ led 32 (more ++ images))) (spaced seq free)
    ∙ append_assoc (join_with_byte 32 (codes "ok" ∷ front)) (32 ∷ []) (op ++ led 32 (more ++ images))
    ∙ joined_more 32 (codes "ok") front (op ∷ (more ++ images))
