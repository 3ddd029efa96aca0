use Rattle.std.proofs.Common.{sym, arith}
use Rattle.record_pages.proofs.RecordLaws.{lies, Cut, cut_good, cut_value, cut_lawful, expiry_there}
use Rattle.record_pages.proofs.records.record_there.Goals as goal

pub split_at-requires : goal.split_at-requires
split_at-requires c = (lies c.args.form c.args.bytes.now c.requires).long

pub unreachable-requires : goal.unreachable-requires
unreachable-requires c = expiry_there c.args.form c.args.bytes.now c.split_at.result.1.now c.requires c.split_at.ensures.back (sym c.in_default.ensures)

pub split_at-requires-2 : goal.split_at-requires-2
split_at-requires-2 c =
    let good = cut_good c.args.form c.args.bytes.now c.split_at.result.0.now c.split_at.result.1.now c.in-Some.rest.now c.in-Some.expires c.from_be_bytes-value_len.result c.requires c.split_at.ensures.front c.split_at.ensures.back (sym c.in-Some.ensures) c.from_be_bytes-value_len.ensures in
    omega (arith, good.whole)

pub split_at-requires-3 : goal.split_at-requires-3
split_at-requires-3 c =
    let good = cut_good c.args.form c.args.bytes.now c.split_at.result.0.now c.split_at.result.1.now c.in-Some.rest.now c.in-Some.expires c.from_be_bytes-value_len.result c.requires c.split_at.ensures.front c.split_at.ensures.back (sym c.in-Some.ensures) c.from_be_bytes-value_len.ensures in
    omega (arith, good.whole, c.split_at-2.ensures.back_len)

pub returns : goal.returns
returns c =
    let form = c.args.form in
    let bytes = c.args.bytes.now in
    let front = c.split_at.result.0.now in
    let mid = c.split_at.result.1.now in
    let back = c.in-Some.rest.now in
    let key = c.split_at-2.result.0.now in
    let after = c.split_at-2.result.1.now in
    let value = c.split_at-3.result.0.now in
    let rest = c.split_at-3.result.1.now in
    let e = c.in-Some.expires in
    let v = c.from_be_bytes-value_len.result in
    let cut : Cut form bytes front mid back key after value rest e v =
    record {
      front_is = c.split_at.ensures.front;
      mid_is = c.split_at.ensures.back;
      expiry = sym c.in-Some.ensures;
      v_is = c.from_be_bytes-value_len.ensures;
      key_is = c.split_at-2.ensures.front;
      after_is = c.split_at-2.ensures.back;
      value_is = c.split_at-3.ensures.front;
      rest_is = c.split_at-3.ensures.back;
    } in
    record {
      value = cut_value form bytes front mid back key after value rest e v c.requires cut;
      lawful = cut_lawful form bytes front mid back key after value rest e v (λ i. omega (arith, c.type_inv.bytes i)) c.requires cut;
    }
