use Rattle.std.proofs.Common.{rules, refl, sym, ◌∙◌, ◌<◌, ◌≡◌, [], length}
use Rattle.std.proofs.KnownBytes.{Appends-kept}
use Rattle.run_calls.proofs.RunLaws.{body_is, finished, ended, taken_so, told_none, told_more}
use Rattle.run_calls.proofs.RunLaws.{told_all}
use Rattle.run_calls.proofs.run.Goals as goal

pub loop-state-init : goal.loop-state-init
loop-state-init g c = record {
  counted = search rules;
  so_far = ([], told_none _ _ c.in_ok-text.ensures.bytes, search rules);
}

pub returns-in-Err : goal.returns-in-Err
returns-in-Err g c =
    let some : 0 < length c.loop-state.rest.now = search rules in
    let read = sym c.read.ensures.value ∙ c.in-Err.is in
    let (done, told, so_far) = c.loop-state.invariant.so_far in
    let whole = ended _ _ _ _ _ _ _ _ c.loop-state.invariant.counted so_far
    _ c.in-Err.why some read refl in
    told_all _ _ _ _ _ _ _ _ (told_more _ _ _ _ _ _ told c.in_ok-put_end-in-Err.ensures)
    c.as_bytes.ensures.value whole c.write_all.ensures.bytes

pub loop-state-preserved : goal.loop-state-preserved
loop-state-preserved g c =
    let some : 0 < length c.loop-state.rest.now = search rules in
    let read = sym c.read.ensures.value ∙ c.in-Ok.is in
    let i = c.loop-state.invariant in
    let (done, told, so_far) = i.so_far in
    let t = c.in_ok-take.ensures in
    let s = c.split_at.ensures in
    record {
      counted = search rules;
      so_far = (
        _,
        Appends-kept _ _ _ _ (told_more _ _ _ done _ _ told t.text) c.in_ok-spill.ensures,
        taken_so _ _ _ _ _ _ _ _ i.counted so_far _ c.in-Ok.entry _ _ _ _ _ some read
            (body_is _ _ c.in-Ok.entry s.front) s.back t.table t.host t.lookups refl,
      );
    }

pub returns : goal.returns
returns g c =
    let none : length c.loop-state.rest.now ≡ 0 = search rules in
    let (done, told, so_far) = c.loop-state.invariant.so_far in
    let whole = finished _ _ _ _ _ _ _ _ c.loop-state.invariant.counted so_far none in
    told_all _ _ _ _ _ _ _ _ told c.as_bytes-2.ensures.value whole c.write_all-2.ensures.bytes
