use Rattle.certificate_checker.proofs.public_laws.Growing.{lawful-push}
use Rattle.certificate_checker.proofs.laws.lawful_grows.Goals as goal

pub returns : goal.returns
returns c = lawful-push
