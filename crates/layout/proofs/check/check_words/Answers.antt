use Rattle.std.proofs.Common.{refl}
use Rattle.layout.proofs.Faulting.{none_more, declined, reads_last}
use Rattle.layout.proofs.check.check_words.Goals as goal

pub returns-in_err-check_sizes : goal.returns-in_err-check_sizes
returns-in_err-check_sizes c =
    let ws = c.args.words.now in
    declined ws 5 c.in_ok-check_counts.ensures _ _ c.from_residual-in_err-check_sizes.ensures.1 c.in_err-check_sizes.ensures (λ i. (refl, refl))

pub returns-in_err-check_starts : goal.returns-in_err-check_starts
returns-in_err-check_starts c =
    let ws = c.args.words.now in
    let six = none_more ws 5 c.in_ok-check_counts.ensures c.in_ok-check_sizes.ensures in
    declined ws 6 six _ _ c.from_residual-in_err-check_starts.ensures.1 c.in_err-check_starts.ensures (λ i. (refl, refl))

pub returns-in_err-check_links : goal.returns-in_err-check_links
returns-in_err-check_links c =
    let ws = c.args.words.now in
    let six = none_more ws 5 c.in_ok-check_counts.ensures c.in_ok-check_sizes.ensures in
    let seven = none_more ws 6 six c.in_ok-check_starts.ensures in
    declined ws 7 seven _ _ c.from_residual-in_err-check_links.ensures.1 c.in_err-check_links.ensures (λ i. (refl, refl))

pub returns-in_err-check_records : goal.returns-in_err-check_records
returns-in_err-check_records c =
    let ws = c.args.words.now in
    let six = none_more ws 5 c.in_ok-check_counts.ensures c.in_ok-check_sizes.ensures in
    let seven = none_more ws 6 six c.in_ok-check_starts.ensures in
    let eight = none_more ws 7 seven c.in_ok-check_links.ensures in
    declined ws 8 eight _ _ c.from_residual-in_err-check_records.ensures.1 c.in_err-check_records.ensures (λ i. (refl, refl))

pub returns : goal.returns
returns c =
    let ws = c.args.words.now in
    let six = none_more ws 5 c.in_ok-check_counts.ensures c.in_ok-check_sizes.ensures in
    let seven = none_more ws 6 six c.in_ok-check_starts.ensures in
    let eight = none_more ws 7 seven c.in_ok-check_links.ensures in
    let nine = none_more ws 8 eight c.in_ok-check_records.ensures in
    reads_last ws c.check_order.result nine c.check_order.ensures
