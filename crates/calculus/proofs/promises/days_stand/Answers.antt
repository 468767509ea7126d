use Rattle.calculus.proofs.Daily.{calls_lead, leads_only, account_fits, day_right}
use Rattle.calculus.proofs.promises.days_stand.Goals as goal

pub returns : goal.returns
returns c = record {
  calls_lead = calls_lead;
  leads_only = leads_only;
  account_fits = account_fits;
  day_right = day_right;
}
