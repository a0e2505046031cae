use Rattle.std.proofs.Common.{rules, ◌+◌, length, ap}
use Rattle.writers.proofs.Places.{put_at, cursor_room}
use Rattle.writers.proofs.Walks.{took_all}
use Rattle.writers.proofs.CursorSink.word.Goals as goal

pub returns : goal.returns
returns c =
    let bytes = c.args.self.now.buf.now in
    let at = c.args.self.now.at in
    let word = c.args.word.now in
    record {
      took =
          took_all (cursor_room bytes at word _ c.min-at.ensures c.if-self-at.false)
          (ap (λ l. record { buf = record c.args.self.now.buf { now = l }; at = at + length word })
          (put_at bytes at word _ _ c.min-at.ensures c.if-self-at.false c.copy_from_slice.ensures.after));
      kept = search rules;
    }
