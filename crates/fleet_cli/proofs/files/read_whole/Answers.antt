use Rattle.std.proofs.Common.{◌≡◌, ◌∙◌, ◌+◌, ◌≤◌, true, not, ap, arith, rules}
use Rattle.std.specs.Result.{is_ok}
use Rattle.fleet_cli.specs.declared.files.TheConstants.{MAX_BYTES}
use Rattle.std.proofs.KnownBytes.{Consumes-nil, Consumes-trans}
use Rattle.fleet_cli.proofs.files.read_whole.Goals as goal

pub chunks-init : goal.chunks-init
chunks-init g c = record {
  so_far = rw c.new-bytes.ensures.items (Consumes-nil (g.R.Read.remaining c.args.reader.now));
  within = omega (arith, c.new-bytes.ensures.len);
}

pub chunks-preserved : goal.chunks-preserved
chunks-preserved g c =
    let room : c.len.result + c.in-Ok.count ≤ MAX_BYTES = c.if-not-has_room.ensures.0 (search rules) in
    let grown : is_ok c.extend_from_slice.result ≡ true = c.is_err.ensures.negation ∙ ap not c.if-is_err.false in
    let items = rw grown at c.extend_from_slice.ensures.items in
    let len = rw grown at c.extend_from_slice.ensures.len in
    record {
      so_far = rw items (Consumes-trans _ _ _ _ _ c.chunks.invariant.so_far c.in-Ok.ensures.bytes.0);
      within = omega (arith, len, c.chunks.invariant.within, room, c.len.ensures, c.in-Ok.ensures.bound.1);
    }

pub chunks-smaller : goal.chunks-smaller
chunks-smaller g c =
    let room : c.len.result + c.in-Ok.count ≤ MAX_BYTES = c.if-not-has_room.ensures.0 (search rules) in
    let grown : is_ok c.extend_from_slice.result ≡ true = c.is_err.ensures.negation ∙ ap not c.if-is_err.false in
    let len = rw grown at c.extend_from_slice.ensures.len in
    omega (arith, len, room, c.len.ensures, c.in-Ok.ensures.bound.1, c.if-count-eq0.false)
