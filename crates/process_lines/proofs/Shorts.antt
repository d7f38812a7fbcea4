-- An object can be encoded.
use Rattle.wire_bcs.specs.Digests.{digest}
use Rattle.chain_types.specs.Objects as codecs
use Rattle.chain_types.specs.declared.objects.Content.{Content}
use Rattle.chain_types.specs.declared.objects.Content.TheVariants as content
use Rattle.chain_types.specs.declared.objects.Object.{Object}
use Rattle.chain_types.specs.declared.objects.Owner.{Owner}
use Rattle.chain_types.specs.declared.objects.Owner.TheVariants as owner

owner_short : (o : Owner) → codecs.owner.short o
unfolding codecs.owner codecs.address digest
owner_short (owner.Address a) = tt
owner_short (owner.Shared initial) = tt
owner_short owner.Immutable = tt

content_short : (c : Content) → codecs.content.short c
unfolding codecs.content codecs.object_id digest
content_short (content.Coin currency balance) = (tt, tt)
content_short (content.Cap currency supply) = (tt, tt)
content_short (content.Counter value) = tt
content_short (content.Vault currency balance) = (tt, tt)
content_short (content.VaultKey vault) = tt
content_short (content.Limit value) = tt

id_short : (o : Object) → codecs.object_id.short o.id
unfolding codecs.object_id digest
id_short o = tt

pub object_short : (o : Object) → codecs.object.short o
unfolding codecs.object
object_short o = (id_short o, (tt, (owner_short o.owner, content_short o.content)))
