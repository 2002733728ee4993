-- A chord sounds itself, a remover has no beats; any other position sounds for its share, in that part of the table.
use Rattle.player.proofs.BarLaws.{bar_removed, bar_place, bar_share, bar_sounds, chord_voice}
use Rattle.std.proofs.Common.{◌≡◌, ◌+◌, ◌≤◌, length, refl, arith, rules}
use Rattle.player.proofs.bars.write_position.Goals as goal
use Rattle.player.proofs.bars.write_position.Goals.{Then-k-lt-CHORDS, Else-k-eq-REMOVER}

chord_no_remover : (c : Then-k-lt-CHORDS) → (c.kind-k.result ≡ 61 → ⊥)
chord_no_remover c = λ e. let h = c.if-k-lt-CHORDS.true in omega arith

-- The part is there.
chord_room : (c : Then-k-lt-CHORDS) → c.args.b + c.args.share ≤ length c.args.bs.now
chord_room c = bar_share c.args.share c.args.w _ c.args.b _ c.kind-k.ensures (chord_no_remover c) c.requires

room : (c : Else-k-eq-REMOVER) → c.args.b + c.args.share ≤ length c.args.bs.now
room c = bar_share c.args.share c.args.w _ c.args.b _ c.kind-k.ensures c.if-k-eq-REMOVER.false c.requires

pub overflow_add-b : goal.overflow_add-b
overflow_add-b c = let h = chord_room c in search rules

pub slice_bounds-write_sound-end : goal.slice_bounds-write_sound-end
slice_bounds-write_sound-end c = chord_room (goal.at.slice_bounds-write_sound-end c).Then-k-lt-CHORDS

pub returns-then-k-lt-CHORDS : goal.returns-then-k-lt-CHORDS
returns-then-k-lt-CHORDS c =
    let a = c.args in
    let t = (goal.at.returns-then-k-lt-CHORDS c).Then-k-lt-CHORDS in record {
      place = bar_place a.share a.w _ a.b c.kind-k.ensures (chord_no_remover t);
      beats = bar_sounds a.share a.last.word a.w _ _ a.b _ a.bs.now _ c.kind-k.ensures (chord_no_remover t)
          (chord_voice a.last.word a.w _ c.kind-k.ensures c.if-k-lt-CHORDS.true) refl (chord_room t) c.write_sound.ensures;
    }

pub returns-then-k-eq-REMOVER : goal.returns-then-k-eq-REMOVER
returns-then-k-eq-REMOVER c =
    let a = c.args in
    let r = bar_removed a.share a.last.word a.w _ a.b a.bs.now c.kind-k.ensures c.if-k-eq-REMOVER.true in record {
      place = r.0;
      beats = r.1;
    }

pub overflow_add-b-2 : goal.overflow_add-b-2
overflow_add-b-2 c = let h = room (goal.at.overflow_add-b-2 c).Else-k-eq-REMOVER in search rules

pub slice_bounds-write_sound-end-2 : goal.slice_bounds-write_sound-end-2
slice_bounds-write_sound-end-2 c = room (goal.at.slice_bounds-write_sound-end-2 c).Else-k-eq-REMOVER

pub returns : goal.returns
returns c =
    let a = c.args in record {
      place = bar_place a.share a.w _ a.b c.kind-k.ensures c.if-k-eq-REMOVER.false;
      beats = bar_sounds a.share a.last.word a.w _ _ a.b _ a.bs.now _ c.kind-k.ensures c.if-k-eq-REMOVER.false
          c.voice.ensures refl (room (goal.at.returns c).Else-k-eq-REMOVER) c.write_sound-2.ensures;
    }
